pub mod Each
pub mod Marks
pub mod Numbers
pub mod Pointer
pub mod Walk
pub mod Written
pub mod Outcome
