pub mod Record
pub mod Calls
pub mod Promises
