pub mod Logs
pub mod Sbox
pub mod Entries
