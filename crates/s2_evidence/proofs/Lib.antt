pub mod InputLemmas
pub mod PieceLemmas
pub mod EachLemmas
pub mod CheckEachLemmas
