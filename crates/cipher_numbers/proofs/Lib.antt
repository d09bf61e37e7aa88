pub mod Legal
pub mod Repeated
