pub mod Rules
pub mod Named
pub mod Slots
pub mod Twice
