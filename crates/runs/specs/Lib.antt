pub mod All
pub mod Zeros
pub mod Same
