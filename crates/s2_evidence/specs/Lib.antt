pub mod Lines
pub mod Checking
pub mod Pieces
pub mod Each
pub mod CheckingEach
