pub mod Cells
pub mod Handles
