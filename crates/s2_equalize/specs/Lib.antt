pub mod Complex
pub mod Gains
pub mod Equalizer
pub mod Bounds
pub mod Laws
pub mod Wanted
