pub mod Cut
pub mod Shift
