pub mod KeyLengths
pub mod Laid
pub mod PFunction
