pub mod AnyCut
