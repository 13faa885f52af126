use Rattle.std.proofs.Common.{ℕ, refl}
use Rattle.std.proofs.lemmas.Simd.{get_or-replicate}
use Rattle.s2_bits.proofs.lanes16.all.Goals as goal

pub returns : goal.returns
returns c = record { long = refl; each = λ k lt. get_or-replicate {A = ℕ} 8 k c.args.x 0 lt }
