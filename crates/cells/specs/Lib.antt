-- A line of a table cut into cells.
pub mod Cells
pub mod code
