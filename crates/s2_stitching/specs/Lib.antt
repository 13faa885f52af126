pub mod Stitches
pub mod Laws
