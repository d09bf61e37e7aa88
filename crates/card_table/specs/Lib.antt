-- What a table says, and a card written as one.
pub mod Table
pub mod Written
pub mod code
