pub mod Blocks
pub mod Circulant
pub mod MdsL
pub mod RowsH
