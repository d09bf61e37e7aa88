pub mod Padded
pub mod Constants
