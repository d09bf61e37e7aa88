pub mod Arranged
pub mod Answers
