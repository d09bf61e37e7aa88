pub mod Schedule
pub mod Numbered
pub mod Calls
pub mod Promises
