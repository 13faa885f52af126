pub mod FrameLemmas
pub mod OnlyLemmas
pub mod TurnLemmas
pub mod PrintLemmas
pub mod AuditLemmas
pub mod CommandLemmas
