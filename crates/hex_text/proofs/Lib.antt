pub mod Ranges
pub mod Texts
