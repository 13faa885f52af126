pub mod Names
pub mod LinkLemmas
pub mod NoteLemmas
pub mod ReceiveLemmas
pub mod SentLemmas
pub mod NoisyReceptionLemmas
pub mod SeedLemmas
