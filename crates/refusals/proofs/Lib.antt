pub mod Clear
pub mod Behind
pub mod Numbers
