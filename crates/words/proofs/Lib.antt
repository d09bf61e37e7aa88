pub mod OfWord
