-- Components of symbols, and their products, as the code holds them in 32 bits.
use Rattle.std.proofs.Common.{◌≡◌, ℕ, zero, suc, ◌-◌, ◌*◌, ◌/◌, ◌%◌, ◌^◌, ◌≤◌, ℤ, pos, negsuc, ◌+ℤ◌, ◌-ℤ◌, ◌*ℤ◌, unsigned_abs, SFits, to_z, of_z, w16, w32, refl, ap, ap₂, ◌∙◌, sym, arith}
use Rattle.std.specs.Int.{int_div_euclid}
use Rattle.std.proofs.lemmas.Int.{ints, to_z-of_z, fits_signed_from_abs}
use Rattle.std.proofs.lemmas.Nat.{one_shl}
use Rattle.std.proofs.Math.Nat.{pow-suc, pow-le-pow_right}
use lib.Signed.{shr_z}
use Rattle.s2_equalize.specs.Complex.{nearest}
use Rattle.s2_equalize.proofs.Quotients.{nearest_within}
use Rattle.s2_equalize.proofs.Sizes.{product_within}

-- ---- products

size_of : (a : ℤ) → SFits w16 a → unsigned_abs a ≤ 2 ^ 15
size_of a fits = let f = fits.sfits in omega (arith, ints, f)

small : (a by : ℤ) → SFits w16 a → unsigned_abs by ≤ 2 ^ 14 → unsigned_abs (a *ℤ by) ≤ 2 ^ 29
small a by f q = let most = product_within a by (2 ^ 15) (2 ^ 14) (size_of a f) q in omega (arith, most)

pub part_product : (x a by : ℤ) → x ≡ to_z w16 (of_z w16 a) → SFits w16 a → unsigned_abs by ≤ 2 ^ 14 → to_z w32 (of_z w32 (to_z w32 (of_z w32 x) *ℤ to_z w32 (of_z w32 by))) ≡ a *ℤ by
part_product x a by is fits q =
    let same : x ≡ a = is ∙ to_z-of_z w16 a fits in
    let size = size_of a fits in
    let left : to_z w32 (of_z w32 x) ≡ a = omega (arith, ints, same, size) in
    let right : to_z w32 (of_z w32 by) ≡ by = omega (arith, ints, q) in
    let whole : SFits w32 (a *ℤ by) = fits_signed_from_abs w32 (a *ℤ by) (omega (arith, small a by fits q)) in
    ap (λ z. to_z w32 (of_z w32 z)) (ap₂ ◌*ℤ◌ left right) ∙ to_z-of_z w32 (a *ℤ by) whole

pub part_product_most : (x a by : ℤ) → x ≡ to_z w16 (of_z w16 a) → SFits w16 a → unsigned_abs by ≤ 2 ^ 14 → unsigned_abs (to_z w32 (of_z w32 (to_z w32 (of_z w32 x) *ℤ to_z w32 (of_z w32 by)))) ≤ 2 ^ 29
part_product_most x a by is fits q = omega (arith, ap unsigned_abs (part_product x a by is fits q), small a by fits q)

-- ---- quotients

shift_is : (y : ℤ) (m : ℕ) → shr_z y m ≡ int_div_euclid y (pos m)
shift_is (pos a) m = refl
shift_is (negsuc a) m = refl

half_is : (d : ℕ) → 1 ≤ d → 2 ^ d / 2 ≡ 2 ^ (d - 1)
half_is zero some = absurd (omega arith)
half_is (suc n) some =
    let before : suc n - 1 ≡ n = omega arith in
    let double = pow-suc 2 n in
    omega (arith, double, ap (λ (k : ℕ). 2 ^ k) before)

pub half_most : (d : ℕ) → d ≤ 25 → 1 * 2 ^ (d - 1) % 4294967296 ≤ 2 ^ 24
half_most d few =
    let whole : 1 * 2 ^ (d - 1) % 4294967296 ≡ 2 ^ (d - 1) = one_shl (d - 1) 32 (omega (arith, few)) in
    let power : 2 ^ (d - 1) ≤ 2 ^ 24 = pow-le-pow_right {n = 2} (omega arith) {i = d - 1} {j = 24} (omega (arith, few)) in
    omega (arith, whole, power)

power_some : (d : ℕ) → 1 ≤ 2 ^ d
power_some d = pow-le-pow_right {n = 2} (omega arith) {i = 0} {j = d} (omega arith)

quotient_is : (x : ℤ) (d : ℕ) → 1 ≤ d → shr_z (x +ℤ pos (2 ^ (d - 1))) (2 ^ d) ≡ nearest x (2 ^ d)
unfolding nearest
quotient_is x d some = shift_is (x +ℤ pos (2 ^ (d - 1))) (2 ^ d) ∙ ap (λ h. int_div_euclid (x +ℤ pos h) (pos (2 ^ d))) (sym (half_is d some))

quotient_small : (x : ℤ) (d : ℕ) → unsigned_abs x ≤ 2 ^ 30 → unsigned_abs (nearest x (2 ^ d)) ≤ 2 ^ 30
quotient_small x d size =
    let one = power_some d in
    nearest_within x (2 ^ d) (2 ^ 30) one (omega (arith, size, one))

-- a product without the digits behind its point
pub component_is : (x : ℤ) (d : ℕ) → 1 ≤ d → d ≤ 25 → unsigned_abs x ≤ 2 ^ 30
    → to_z w32 (of_z w32 (shr_z (to_z w32 (of_z w32 (to_z w32 (of_z w32 x) +ℤ to_z w32 (1 * 2 ^ (d - 1) % 4294967296)))) (2 ^ d))) ≡ nearest x (2 ^ d)
component_is x d some few size =
    let whole : 1 * 2 ^ (d - 1) % 4294967296 ≡ 2 ^ (d - 1) = one_shl (d - 1) 32 (omega (arith, few)) in
    let half = half_most d few in
    let sum : to_z w32 (of_z w32 (to_z w32 (of_z w32 x) +ℤ to_z w32 (1 * 2 ^ (d - 1) % 4294967296))) ≡ x +ℤ pos (2 ^ (d - 1)) = omega (arith, ints, size, whole, half) in
    let quotient = ap (λ y. shr_z y (2 ^ d)) sum ∙ quotient_is x d some in
    let fits : SFits w32 (nearest x (2 ^ d)) = fits_signed_from_abs w32 (nearest x (2 ^ d)) (omega (arith, quotient_small x d size)) in
    ap (λ z. to_z w32 (of_z w32 z)) quotient ∙ to_z-of_z w32 (nearest x (2 ^ d)) fits

-- ---- sums and differences of two products

pub sum_held : (p q x y : ℤ) → p ≡ x → q ≡ y → unsigned_abs p ≤ 2 ^ 29 → unsigned_abs q ≤ 2 ^ 29 → to_z w32 (of_z w32 (to_z w32 (of_z w32 p) +ℤ to_z w32 (of_z w32 q))) ≡ x +ℤ y
sum_held p q x y a b m n = omega (arith, ints, a, b, m, n)

pub difference_held : (p q x y : ℤ) → p ≡ x → q ≡ y → unsigned_abs p ≤ 2 ^ 29 → unsigned_abs q ≤ 2 ^ 29 → to_z w32 (of_z w32 (to_z w32 (of_z w32 p) -ℤ to_z w32 (of_z w32 q))) ≡ x -ℤ y
difference_held p q x y a b m n = omega (arith, ints, a, b, m, n)

pub difference_most : (p q : ℤ) → unsigned_abs p ≤ 2 ^ 29 → unsigned_abs q ≤ 2 ^ 29 → unsigned_abs (to_z w32 (of_z w32 (to_z w32 (of_z w32 p) -ℤ to_z w32 (of_z w32 q)))) ≤ 2 ^ 30
difference_most p q m n = omega (arith, ints, m, n)

-- a component that is held in 16 bits
pub component_held : (z x : ℤ) → SFits w16 z → z ≡ x → to_z w16 (of_z w16 z) ≡ x
component_held z x fits is = to_z-of_z w16 z fits ∙ is

-- what is held, as a product: the parts of a factor in 32 bits
pub part_held : (component part : ℤ) → SFits w16 component → unsigned_abs part ≤ 2 ^ 14 → to_z w16 (of_z w16 component) *ℤ to_z w32 (of_z w32 part) ≡ component *ℤ part
part_held component part fits q =
    let right : to_z w32 (of_z w32 part) ≡ part = omega (arith, ints, q) in
    ap₂ ◌*ℤ◌ (to_z-of_z w16 component fits) right

-- a number that is held in 32 bits
pub number_held : (z : ℤ) → unsigned_abs z ≤ 2 ^ 30 → to_z w32 (of_z w32 z) ≡ z
number_held z most = omega (arith, ints, most)
