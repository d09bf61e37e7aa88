pub mod Search
pub mod Pairs
pub mod Written
pub mod Find
pub mod Put
pub mod Examples
