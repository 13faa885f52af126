pub mod Bits
pub mod Lending
pub mod Rotations
pub mod Lanes
pub mod Lanes16
pub mod Lanes32
