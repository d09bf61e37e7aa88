pub mod Digits
pub mod Reading
pub mod Answers
pub mod Words
