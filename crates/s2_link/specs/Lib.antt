pub mod Limits
pub mod Link
