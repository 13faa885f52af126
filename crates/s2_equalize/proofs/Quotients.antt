-- Whole numbers divided to the nearest whole number, and square roots.
use Rattle.std.proofs.Common.{◌≡◌, ℕ, zero, suc, ◌+◌, ◌*◌, ◌/◌, ◌≤◌, ◌<◌, Bool, true, false, cond, ℤ, pos, negsuc, ◌+ℤ◌, unsigned_abs, refl, arith, mul-le-mul, inl, inr}
use Rattle.std.specs.Prelude.{nat_le}
use Rattle.std.specs.Int.{int_div_euclid}
use Rattle.std.proofs.lemmas.Bool.{leb-true, leb-false, cases_lt}
use Rattle.std.proofs.lemmas.Int.{ints}
use Rattle.std.proofs.lemmas.Nat.{div_below}
use Rattle.s2_equalize.specs.Complex.{nearest, root}

-- a quotient is not larger than a bound
quotient_within : (y x : ℤ) (n m : ℕ) → x +ℤ pos (n / 2) ≡ y → 0 < n → unsigned_abs x ≤ m * n → unsigned_abs (int_div_euclid y (pos n)) ≤ m
quotient_within (pos a) x n m is some size =
    let half : n / 2 < n = omega arith in
    let small : a < (m + 1) * n = omega (arith, ints, is, size, half) in
    let below : a / n < m + 1 = div_below a n (m + 1) some small in
    omega (arith, below)
quotient_within (negsuc a) x n m is some size =
    let small : a < m * n = omega (arith, ints, is, size) in
    let below : a / n < m = div_below a n m some small in
    omega (arith, below)

pub nearest_within : (x : ℤ) (n m : ℕ) → 0 < n → unsigned_abs x ≤ m * n → unsigned_abs (nearest x n) ≤ m
unfolding nearest
nearest_within x n m some size = quotient_within (x +ℤ pos (n / 2)) x n m refl some size

-- ---- square roots

-- a number is the root of n
pub record IsRoot (n r : ℕ) : Type 0 where
  pub below : r * r ≤ n
  pub above : n < (r + 1) * (r + 1)

-- the root of the next number, by whether that is the next square
next_root : (n r : ℕ) (b : Bool) → nat_le ((r + 1) * (r + 1)) (suc n) ≡ b → IsRoot n r → IsRoot (suc n) (cond b (r + 1) r)
next_root n r true e is =
    let square : (r + 1) * (r + 1) ≤ suc n = leb-true ((r + 1) * (r + 1)) (suc n) e in
    let above = is.above in
    record { below = square; above = omega (arith, above) }
next_root n r false e is =
    let square : suc n < (r + 1) * (r + 1) = leb-false ((r + 1) * (r + 1)) (suc n) e in
    let below = is.below in
    record { below = omega (arith, below); above = square }

pub root_is : (n : ℕ) → IsRoot n (root n)
unfolding root
root_is zero = record { below = omega arith; above = omega arith }
root_is (suc n) = next_root n (root n) (nat_le ((root n + 1) * (root n + 1)) (suc n)) refl (root_is n)

-- a number whose square is not larger than n is not larger than its root
pub part_below : (n r k : ℕ) → IsRoot n r → k * k ≤ n → k ≤ r
part_below n r k is small =
    elim (cases_lt r k) [
      | inl more ↦
          let next : r + 1 ≤ k = omega (arith, more) in
          let square = mul-le-mul next next in
          let above = is.above in
          absurd (omega (arith, square, above, small))
      | inr le ↦ le
    ]

-- there is one root
pub one_root : (n r s : ℕ) → IsRoot n r → IsRoot n s → r ≡ s
one_root n r s a b =
    let le : r ≤ s = part_below n s r b a.below in
    let ge : s ≤ r = part_below n r s a b.below in
    omega (arith, le, ge)
