-- Products of two components, and the distributive and associative laws of signed numbers.
use Rattle.std.proofs.Common.{◌≡◌, ℕ, zero, suc, ◌+◌, ◌*◌, ◌^◌, ◌≤◌, ◌<◌, ℤ, pos, negsuc, ◌+ℤ◌, ◌-ℤ◌, ◌*ℤ◌, unsigned_abs, SFits, to_z, of_z, w16, w64, arith, ap, ap₂, ◌∙◌, sym, subst, mul-le-mul}
use Rattle.std.proofs.lemmas.Int.{ints, to_z-of_z, unsigned_abs-mul, fits_signed_from_abs}
use lib.IntN.{suc_ℤ-*ℤ, pred_ℤ-*ℤ, zero-*ℤ}
use borrow.Author.Differences.{up, down, sum_is_lem}

pub sum-*ℤ : (a b c : ℤ) → (a +ℤ b) *ℤ c ≡ a *ℤ c +ℤ b *ℤ c
sum-*ℤ a b c =
    let by_up = ap (λ (t : ℕ). t * up c) (sum_is_lem a b) in
    let by_down = ap (λ (t : ℕ). t * down c) (sum_is_lem a b) in
    omega (arith, ints, by_up, by_down)

pub *ℤ-sum : (a b c : ℤ) → c *ℤ (a +ℤ b) ≡ c *ℤ a +ℤ c *ℤ b
*ℤ-sum a b c =
    let by_up = ap (λ (t : ℕ). t * up c) (sum_is_lem a b) in
    let by_down = ap (λ (t : ℕ). t * down c) (sum_is_lem a b) in
    omega (arith, ints, by_up, by_down)

pub *ℤ-difference : (a b c : ℤ) → c *ℤ (a -ℤ b) ≡ c *ℤ a -ℤ c *ℤ b
*ℤ-difference a b c =
    let again : (a -ℤ b) +ℤ b ≡ a = omega (arith, ints) in
    omega (arith, ints, *ℤ-sum (a -ℤ b) b c, ap (λ (x : ℤ). c *ℤ x) again)

pub *ℤ-assoc : (a b c : ℤ) → (a *ℤ b) *ℤ c ≡ a *ℤ (b *ℤ c)
*ℤ-assoc (pos zero) b c = ap (λ (x : ℤ). x *ℤ c) (zero-*ℤ b) ∙ zero-*ℤ c ∙ sym (zero-*ℤ (b *ℤ c))
*ℤ-assoc (pos (suc n)) b c =
    ap (λ (x : ℤ). x *ℤ c) (suc_ℤ-*ℤ (pos n) b) ∙ sum-*ℤ (pos n *ℤ b) b c ∙ ap (λ (x : ℤ). x +ℤ b *ℤ c) (*ℤ-assoc (pos n) b c) ∙ sym (suc_ℤ-*ℤ (pos n) (b *ℤ c))
*ℤ-assoc (negsuc zero) b c =
    let apart = sum-*ℤ (negsuc zero *ℤ b) b c in
    let none : negsuc zero *ℤ b +ℤ b ≡ pos zero = omega (arith, ints, pred_ℤ-*ℤ (pos zero) b, zero-*ℤ b) in
    omega (arith, ints, apart, ap (λ (x : ℤ). x *ℤ c) none, zero-*ℤ c, pred_ℤ-*ℤ (pos zero) (b *ℤ c), zero-*ℤ (b *ℤ c))
*ℤ-assoc (negsuc (suc n)) b c =
    let left = pred_ℤ-*ℤ (negsuc n) b in
    let apart = sum-*ℤ (negsuc (suc n) *ℤ b) b c in
    let again : negsuc (suc n) *ℤ b +ℤ b ≡ negsuc n *ℤ b = omega (arith, ints, left) in
    omega (arith, ints, apart, ap (λ (x : ℤ). x *ℤ c) again, *ℤ-assoc (negsuc n) b c, pred_ℤ-*ℤ (negsuc n) (b *ℤ c))

-- ---- two components of 16 bits

pub size_of : (a : ℤ) → SFits w16 a → unsigned_abs a ≤ 32768
size_of a fits = let f = fits.sfits in omega (arith, ints, f)

pub product_small : (a b : ℤ) → SFits w16 a → SFits w16 b → unsigned_abs (a *ℤ b) ≤ 2 ^ 30
product_small a b f g = omega (arith, unsigned_abs-mul a b, mul-le-mul (size_of a f) (size_of b g))

pub product_fits : (a b : ℤ) → SFits w16 a → SFits w16 b → SFits w64 (a *ℤ b)
product_fits a b f g = fits_signed_from_abs w64 (a *ℤ b) (omega (arith, product_small a b f g))

-- the factors as the code has them
pub factors_held : (a b : ℤ) → SFits w16 a → SFits w16 b → to_z w16 (of_z w16 a) *ℤ to_z w16 (of_z w16 b) ≡ a *ℤ b
factors_held a b f g = ap₂ ◌*ℤ◌ (to_z-of_z w16 a f) (to_z-of_z w16 b g)

-- ---- numbers that the code holds in 64 bits

pub held : (z : ℤ) → unsigned_abs z ≤ 2 ^ 31 → to_z w64 (of_z w64 z) ≡ z
held z small = omega (arith, ints, small)

pub sum_held : (p q x y : ℤ) → p ≡ x → q ≡ y → unsigned_abs p ≤ 2 ^ 30 → unsigned_abs q ≤ 2 ^ 30 → to_z w64 (of_z w64 (to_z w64 (of_z w64 p) +ℤ to_z w64 (of_z w64 q))) ≡ x +ℤ y
sum_held p q x y a b m n = omega (arith, ints, a, b, m, n)

pub difference_held : (p q x y : ℤ) → p ≡ x → q ≡ y → unsigned_abs p ≤ 2 ^ 30 → unsigned_abs q ≤ 2 ^ 30 → to_z w64 (of_z w64 (to_z w64 (of_z w64 p) -ℤ to_z w64 (of_z w64 q))) ≡ x -ℤ y
difference_held p q x y a b m n = omega (arith, ints, a, b, m, n)

pub rest_held : (p q : ℤ) → unsigned_abs p ≤ 2 ^ 51 → unsigned_abs q ≤ 2 ^ 51 → to_z w64 (of_z w64 (to_z w64 (of_z w64 p) -ℤ to_z w64 (of_z w64 q))) ≡ p -ℤ q
rest_held p q m n = omega (arith, ints, m, n)
