pub mod EntryLemmas
mod Ranges
mod Bodies
pub mod ByteBits
mod Padding
mod Refusals
pub mod Pages
pub mod Flat
pub mod Fields
pub mod ShapeTests
pub mod ReadAgain
