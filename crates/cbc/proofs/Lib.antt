pub mod Parts
pub mod Loop
pub mod Cut
pub mod Undo
pub mod Sized
