pub mod Hashing
pub mod RisenRows
pub mod NoteLemmas
pub mod RisenLaws
pub mod RowSumLaws
pub mod TableLemmas
pub mod TellLemmas
