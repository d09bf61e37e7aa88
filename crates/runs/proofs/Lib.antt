pub mod Same
pub mod All
pub mod Fill
pub mod Parts
