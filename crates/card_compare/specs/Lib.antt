pub mod Compare
pub mod Promises
pub mod code
