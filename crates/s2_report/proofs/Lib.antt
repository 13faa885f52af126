mod EntryLemmas
mod LineLemmas
mod NumberLemmas
pub mod ReadBack
mod Rooms
pub mod SaidVerdicts
