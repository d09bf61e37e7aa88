-- What the functions put down, and where.
pub mod Laid
pub mod Numbers
pub mod Filled
pub mod Added
