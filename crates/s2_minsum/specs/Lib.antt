pub mod Factors
pub mod Plain
pub mod Laws
pub mod Rows
pub mod Nodes
pub mod Exchange
pub mod Layout
pub mod Decoding
