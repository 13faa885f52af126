pub mod Limits
pub mod Tuning
pub mod Best
pub mod Wanted
pub mod Divisor
