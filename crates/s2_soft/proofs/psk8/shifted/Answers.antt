use Rattle.std.proofs.Common.{ℕ, ◌/◌, ◌^◌, get_or, replicate, refl, ap, ◌∙◌}
use Rattle.std.proofs.lemmas.Simd.{get_or-replicate}
use Rattle.s2_bits.proofs.Unsigned.{operator}
use Rattle.s2_soft.proofs.psk8.shifted.Goals as goal

pub returns : goal.returns
returns c =
    let h = operator 4 (λ x n. x / 2 ^ n) c.args.a (replicate {A = ℕ} 4 c.args.shift) c.fits-a.0 refl in
    record { long = h.long; each = λ k lt. h.each k lt ∙ ap (λ n. get_or c.args.a k 0 / 2 ^ n) (get_or-replicate {A = ℕ} 4 k c.args.shift 0 lt) }
