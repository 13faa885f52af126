pub mod FramesThere
pub mod TrueRecords
pub mod StitchLemmas
