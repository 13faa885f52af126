-- Lanes that hold the same word.
use Rattle.std.proofs.Common.{ℕ, replicate}
use Rattle.std.proofs.lemmas.Simd.{length-replicate, get_or-replicate}
use Rattle.s2_bits.specs.Lanes.{HasLanes}

pub same_lanes : (n x : ℕ) → HasLanes n (λ k. x) (replicate n x)
same_lanes n x = record { long = length-replicate {A = ℕ} n x; each = λ k lt. get_or-replicate {A = ℕ} n k x 0 lt }
