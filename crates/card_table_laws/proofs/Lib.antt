pub mod Numbers
pub mod PlainCells
pub mod LineRead
pub mod TableLines
pub mod Putting
pub mod ThereAndBack
