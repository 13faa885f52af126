use Rattle.std.proofs.Common.{◌≡◌, ◌*ℤ◌, ℤ, SFits, to_z, of_z, w16, w64, unsigned_abs, ap, ap₂, ◌∙◌, subst, sym, arith}
use Rattle.std.proofs.lemmas.Int.{ints, to_z-of_z}
use Rattle.s2_message.proofs.Products.{product_small, product_fits}
use Rattle.s2_message.proofs.correlation_sums.product.Goals as goal

factor : (a b : ℤ) → a ≡ to_z w16 (of_z w16 b) → SFits w16 b → to_z w64 (of_z w64 a) ≡ b
factor a b is fits =
    let f = fits.sfits in
    let same : a ≡ b = is ∙ to_z-of_z w16 b fits in
    omega (arith, ints, same, f)

-- what the code's product gives
product : (x y a b : ℤ) → x ≡ to_z w16 (of_z w16 a) → y ≡ to_z w16 (of_z w16 b) → SFits w16 a → SFits w16 b → to_z w64 (of_z w64 (to_z w64 (of_z w64 x) *ℤ to_z w64 (of_z w64 y))) ≡ a *ℤ b
product x y a b xa yb f g =
    ap (λ z. to_z w64 (of_z w64 z)) (ap₂ ◌*ℤ◌ (factor x a xa f) (factor y b yb g)) ∙ to_z-of_z w64 (a *ℤ b) (product_fits a b f g)

pub overflow_mul-result : goal.overflow_mul-result
overflow_mul-result c =
    let a = factor c.from.result c.args.a c.from.ensures c.ranges.a in
    let b = factor c.from-2.result c.args.b c.from-2.ensures c.ranges.b in
    subst (SFits w64) (sym (ap₂ ◌*ℤ◌ a b)) (product_fits c.args.a c.args.b c.ranges.a c.ranges.b)

pub returns-clause-is : goal.returns-clause-is
returns-clause-is c = product c.from.result c.from-2.result c.args.a c.args.b c.from.ensures c.from-2.ensures c.ranges.a c.ranges.b

pub returns-clause-most : goal.returns-clause-most
returns-clause-most c =
    let is = product c.from.result c.from-2.result c.args.a c.args.b c.from.ensures c.from-2.ensures c.ranges.a c.ranges.b in
    let small = product_small c.args.a c.args.b c.ranges.a c.ranges.b in
    omega (arith, ap unsigned_abs is, small)
