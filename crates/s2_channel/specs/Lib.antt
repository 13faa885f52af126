pub mod Table
pub mod Gaussian
pub mod Noise
pub mod Laws
pub use Rattle.rand_core.specs.Pcg32Seed
pub use Rattle.rand_pcg.specs.Pcg
