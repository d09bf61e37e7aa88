pub mod State
pub mod Numbered
pub mod Calls
pub mod Promises
