use Rattle.std.proofs.Common.{◌≡◌, ℕ, ◌+◌, ◌*◌, ◌^◌, ◌≤◌, ◌%◌, unsigned_abs, sym, ap, ap₂, subst, ◌∙◌, arith, mul-le-mul}
use Rattle.s2_equalize.specs.declared.complex.Complex.{Complex}
use Rattle.s2_equalize.specs.Bounds.{factor_bound}
use Rattle.s2_equalize.specs.Complex.{IsWithin, conjugate, over, scaled}
use Rattle.s2_equalize.specs.Equalizer.{divisor, reciprocal}
use Rattle.s2_equalize.proofs.Sizes.{within_more}
use Rattle.s2_equalize.proofs.Digits.{conjugate_small, negated, reciprocal_within, shifted_is, shifted_power}
use Rattle.s2_equalize.proofs.factors.reciprocal.Goals as goal

scaled_is : (b : ℕ) (a conjugated out : Complex) → b ≤ 23 → conjugated ≡ conjugate a → out ≡ scaled (1 * 2 ^ (b + 12) % 18446744073709551616) conjugated → out ≡ scaled (2 ^ (b + 12)) (conjugate a)
scaled_is b a conjugated out few same is = is ∙ ap₂ scaled (shifted_is (b + 12) (omega (arith, few))) same

part_fits : (shift part : ℕ) → shift ≤ 2 ^ 35 → part ≤ 2 ^ 22 → shift * part ≤ 2 ^ 60
part_fits shift part p q = let product = mul-le-mul p q in omega (arith, product)

pub scaled-requires : goal.scaled-requires
scaled-requires c =
    let power = shifted_power c.args.fineness c.requires.fineness in
    let within = c.requires.gain in
    let same = c.conjugate.ensures in
    let re : unsigned_abs c.conjugate.result.re ≤ 2 ^ 22 = omega (arith, ap (λ (x : Complex). unsigned_abs x.re) same, within.re) in
    let im : unsigned_abs c.conjugate.result.im ≤ 2 ^ 22 = omega (arith, ap (λ (x : Complex). unsigned_abs x.im) same, negated c.args.gain.im, within.im) in
    record { few = omega (arith, power); re = part_fits _ _ power re; im = part_fits _ _ power im }

pub over-requires-clause-size : goal.over-requires-clause-size
over-requires-clause-size c =
    let b = c.args.fineness in
    let a = c.args.gain in
    let is = scaled_is b a c.conjugate.result c.scaled.result c.requires.fineness c.conjugate.ensures c.scaled.ensures in
    let most : divisor b a ≤ 2 ^ 46 = omega (arith, c.divisor.ensures.is, c.divisor.ensures.most) in
    subst (IsWithin (2 ^ 61)) (sym is) (within_more (2 ^ 14 * divisor b a) (2 ^ 61) (scaled (2 ^ (b + 12)) (conjugate a)) (omega (arith, most)) (conjugate_small b a))

pub returns-clause-is : goal.returns-clause-is
unfolding reciprocal
returns-clause-is c =
    c.over.ensures ∙ ap₂ over c.divisor.ensures.is (scaled_is c.args.fineness c.args.gain c.conjugate.result c.scaled.result c.requires.fineness c.conjugate.ensures c.scaled.ensures)

pub returns-clause-most : goal.returns-clause-most
returns-clause-most c = subst (IsWithin factor_bound) (sym (returns-clause-is c)) (reciprocal_within c.args.fineness c.args.gain)
