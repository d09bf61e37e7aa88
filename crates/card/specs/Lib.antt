pub mod Put
pub mod Promises
pub mod code
