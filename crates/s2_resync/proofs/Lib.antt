pub mod ResyncLemmas
pub mod StepLemmas
