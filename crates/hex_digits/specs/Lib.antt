-- What a text of hex digits spells, and what reading it gives.
pub mod Read
