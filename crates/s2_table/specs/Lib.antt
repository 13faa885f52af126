pub mod Rising
pub mod RowSums
pub mod Sums
pub mod Tables
pub mod Wanted
