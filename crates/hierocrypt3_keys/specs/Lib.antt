pub mod Operations
pub mod Keys
pub mod code
