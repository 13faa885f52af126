pub mod Decisions
pub mod Certificates
pub mod DecidingLemmas
pub mod Scattering
pub mod DecidedLengths
mod EvidenceLemmas
mod EarlyRepairLemmas
