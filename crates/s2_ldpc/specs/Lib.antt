pub mod Encoding
