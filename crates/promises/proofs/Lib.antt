pub mod Unique
pub mod Returned
