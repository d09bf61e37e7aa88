pub mod Steps
pub mod Numbered
