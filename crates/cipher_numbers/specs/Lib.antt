pub mod Ciphers
pub mod Blank
