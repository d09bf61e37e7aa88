pub mod Keys
pub mod code
