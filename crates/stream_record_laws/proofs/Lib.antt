pub mod Numbers
pub mod Lossless
pub mod TakenUp
pub mod Shape
pub mod Stops
pub mod Examples
