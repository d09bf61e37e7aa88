-- What only serves the code; a reader of 002 may skip it.
pub mod Columns
