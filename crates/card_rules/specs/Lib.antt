-- Which number a field of a record may hold.
pub mod Rules
pub mod code
