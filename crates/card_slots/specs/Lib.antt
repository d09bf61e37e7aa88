pub mod Slot
pub mod Card
pub mod Find
