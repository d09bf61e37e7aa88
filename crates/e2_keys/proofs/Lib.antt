pub mod Apart
pub mod KeyParts
pub mod Generations
