pub mod Limits
pub mod Crc
pub mod Headers
pub mod DataStream
pub mod Joining
pub mod Gaps
