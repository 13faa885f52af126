pub mod Constants
pub mod Mapping
pub mod Permutation
pub mod Lanes
