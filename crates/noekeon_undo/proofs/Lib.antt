pub mod Undo
pub mod Printed
