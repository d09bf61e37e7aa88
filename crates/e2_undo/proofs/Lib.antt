pub mod StayBytes
pub mod Undo
pub mod KeyBytes
