use Rattle.std.proofs.Common.{◌≡◌, ◌^◌, ◌≤◌, ℤ, ◌*ℤ◌, SFits, to_z, of_z, w64, unsigned_abs, ap, ap₂, ◌∙◌, arith}
use Rattle.std.proofs.lemmas.Int.{ints, to_z-of_z, fits_signed_from_abs}
use Rattle.s2_equalize.proofs.Sizes.{product_within}
use Rattle.s2_equalize.proofs.complex.product.Goals as goal

small : (a b : ℤ) → unsigned_abs a ≤ 2 ^ 30 → unsigned_abs b ≤ 2 ^ 30 → unsigned_abs (a *ℤ b) ≤ 2 ^ 60
small a b p q = let most = product_within a b (2 ^ 30) (2 ^ 30) p q in omega (arith, most)

-- what the code's product gives
product : (a b : ℤ) → unsigned_abs a ≤ 2 ^ 30 → unsigned_abs b ≤ 2 ^ 30 → to_z w64 (of_z w64 (to_z w64 (of_z w64 a) *ℤ to_z w64 (of_z w64 b))) ≡ a *ℤ b
product a b p q =
    let left : to_z w64 (of_z w64 a) ≡ a = omega (arith, ints, p) in
    let right : to_z w64 (of_z w64 b) ≡ b = omega (arith, ints, q) in
    let fits : SFits w64 (a *ℤ b) = fits_signed_from_abs w64 (a *ℤ b) (omega (arith, small a b p q)) in
    ap (λ z. to_z w64 (of_z w64 z)) (ap₂ ◌*ℤ◌ left right) ∙ to_z-of_z w64 (a *ℤ b) fits

pub returns-clause-is : goal.returns-clause-is
returns-clause-is c = product c.args.a c.args.b c.requires.a c.requires.b

pub returns-clause-most : goal.returns-clause-most
returns-clause-most c =
    let is = product c.args.a c.args.b c.requires.a c.requires.b in
    omega (arith, ap unsigned_abs is, small c.args.a c.args.b c.requires.a c.requires.b)
