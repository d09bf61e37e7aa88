pub mod Lines
pub mod Headers
pub mod Records
pub mod WrittenLines
