pub mod Answers
pub mod States
pub mod AnyCut
pub mod WholeWay
