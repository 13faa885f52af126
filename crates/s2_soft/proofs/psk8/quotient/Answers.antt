use Rattle.std.proofs.Common.{ℕ, ◌/◌, get_or, replicate, refl, ap, ◌∙◌, arith}
use Rattle.std.proofs.lemmas.Simd.{get_or-replicate}
use Rattle.s2_bits.proofs.Unsigned.{operator, asks}
use Rattle.s2_soft.proofs.psk8.quotient.Goals as goal

pub nonzero_div-result : goal.nonzero_div-result
nonzero_div-result c =
    asks _ c.args.a (replicate {A = ℕ} 4 c.args.by) c.fits-a.0 (λ k lt. let is = get_or-replicate {A = ℕ} 4 k c.args.by 0 (omega (arith, c.fits-a.0)) in omega (arith, is, c.requires))

pub returns : goal.returns
returns c =
    let h = operator 4 _ c.args.a (replicate {A = ℕ} 4 c.args.by) c.fits-a.0 refl in
    record { long = h.long; each = λ k lt. h.each k lt ∙ ap (λ x. get_or c.args.a k 0 / x) (get_or-replicate {A = ℕ} 4 k c.args.by 0 lt) }
