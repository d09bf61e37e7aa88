pub mod Reached
pub mod First
pub mod Fronts
pub mod Verdicts
