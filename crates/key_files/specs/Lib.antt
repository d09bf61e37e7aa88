-- What a file of hex digits is taken for.
pub mod Spelled
