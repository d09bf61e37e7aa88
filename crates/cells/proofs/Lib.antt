pub mod Texts
pub mod AllCells
pub mod OneCell
