pub mod Amplitudes
pub mod Draws
pub mod Streams
pub mod Silence
pub mod TableLemmas
