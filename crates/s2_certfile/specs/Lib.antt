pub mod Limits
pub mod Field
pub mod File
pub mod Format
pub mod Pages
pub mod Answers
pub mod Held
pub mod FaultTexts
