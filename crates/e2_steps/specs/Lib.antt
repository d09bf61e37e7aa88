pub mod Steps
pub mod code
