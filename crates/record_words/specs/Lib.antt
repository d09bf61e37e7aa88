-- A record as a person writes it.
pub mod Record
