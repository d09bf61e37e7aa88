-- The bytes of a sent card.
pub mod File
