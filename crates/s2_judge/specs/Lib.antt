pub mod Deciding
pub mod Certifying
pub mod Judging
pub mod Lending
pub mod EarlyRepair
