pub mod ByWords
pub mod StepsOfP
