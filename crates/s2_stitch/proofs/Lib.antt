pub mod RecordLemmas
pub mod SourceLemmas
pub mod FrameLemmas
pub mod RecallLemmas
pub mod StitchLemmas
pub mod UncertifiedLemmas
pub mod SameLemmas
pub mod SealLemmas
