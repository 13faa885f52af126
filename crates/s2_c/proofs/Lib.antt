pub mod Values
pub mod Opened
pub mod Filled
