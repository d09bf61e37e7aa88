pub mod Laying
pub mod Digits
pub mod Filling
pub mod Adding
