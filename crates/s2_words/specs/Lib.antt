pub mod Options
pub mod Ranges
