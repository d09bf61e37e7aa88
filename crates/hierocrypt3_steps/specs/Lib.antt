pub mod Operations
pub mod Rounds
pub mod code
