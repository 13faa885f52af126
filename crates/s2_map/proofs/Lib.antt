pub mod Labels
pub mod Places
pub mod Eights
