pub mod KeyLength
pub mod Word
