pub mod Outcomes
pub mod Places
