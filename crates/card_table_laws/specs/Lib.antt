-- What the characters of a text are, and a card's slots as a table has them.
pub mod Texts
pub mod Written
