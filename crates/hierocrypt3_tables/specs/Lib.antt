pub mod Operations
pub mod Constants
pub mod code
