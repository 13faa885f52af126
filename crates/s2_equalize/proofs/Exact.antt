-- Quotients that are exact, or nearly.
use Rattle.std.proofs.Common.{◌≡◌, ℕ, zero, suc, ◌+◌, ◌-◌, ◌*◌, ◌/◌, ◌≤◌, ◌<◌, ℤ, pos, negsuc, ◌+ℤ◌, ◌-ℤ◌, ◌*ℤ◌, neg_ℤ, unsigned_abs, refl, ap, ap₂, ◌∙◌, sym, arith}
use Rattle.std.specs.Int.{int_div_euclid}
use Rattle.std.proofs.lemmas.Int.{ints}
use Rattle.std.proofs.lemmas.Nat.{div-mul-add}
use lib.IntN.{neg_ℤ-neg_ℤ, *ℤ-zero, zero-*ℤ, *ℤ-negsuc, pos-*ℤ-pos, pos-*ℤ-negsuc, negsuc-*ℤ-pos, *ℤ_comm}
use Rattle.s2_equalize.specs.Complex.{nearest}

-- ---- quotients by their remainders

above : (y : ℤ) (n k r : ℕ) → r < n → y ≡ pos (k * n + r) → int_div_euclid y (pos n) ≡ pos k
above y n k r small is = ap (λ z. int_div_euclid z (pos n)) is ∙ ap pos (div-mul-add k n r small)

below : (y : ℤ) (n k r : ℕ) → r < n → y ≡ negsuc (k * n + r) → int_div_euclid y (pos n) ≡ negsuc k
below y n k r small is = ap (λ z. int_div_euclid z (pos n)) is ∙ ap negsuc (div-mul-add k n r small)

-- twice what a number is away from a multiple is less than the divisor
pub record IsNear (x n m : ℕ) : Type 0 where
  pub over : 2 * x < (2 * m + 1) * n
  pub under : 2 * m * n < 2 * x + n

pub near_pos : (x n m : ℕ) → IsNear x n m → nearest (pos x) n ≡ pos m
unfolding nearest
near_pos x n m near =
    let over = near.over in
    let under = near.under in
    let half : m * n ≤ x + n / 2 = omega (arith, under) in
    let rest : x + n / 2 - m * n < n = omega (arith, over, half) in
    let sum : x + n / 2 ≡ m * n + (x + n / 2 - m * n) = omega (arith, half) in
    above (pos x +ℤ pos (n / 2)) n m (x + n / 2 - m * n) rest (ap pos sum)

pub near_neg : (x n m : ℕ) → IsNear x n m → nearest (neg_ℤ (pos x)) n ≡ neg_ℤ (pos m)
unfolding nearest
near_neg x n zero near =
    let over = near.over in
    let small : x ≤ n / 2 = omega (arith, over) in
    let rest : n / 2 - x < n = omega (arith, over) in
    above (neg_ℤ (pos x) +ℤ pos (n / 2)) n 0 (n / 2 - x) rest (omega (arith, ints, small))
near_neg x n (suc m) near =
    let over = near.over in
    let under = near.under in
    let less : n / 2 < x = omega (arith, under) in
    let least : m * n ≤ x - n / 2 - 1 = omega (arith, under, less) in
    let rest : x - n / 2 - 1 - m * n < n = omega (arith, over, less, least) in
    below (neg_ℤ (pos x) +ℤ pos (n / 2)) n m (x - n / 2 - 1 - m * n) rest (omega (arith, ints, less, least))

pub multiple_near : (m n : ℕ) → 0 < n → IsNear (m * n) n m
multiple_near m n some = record { over = omega (arith, some); under = omega (arith, some) }

-- a multiple, divided
pub nearest_whole : (z : ℤ) (n : ℕ) → 0 < n → nearest (pos n *ℤ z) n ≡ z
nearest_whole (pos k) n some =
    let product : n * k ≡ k * n = omega arith in
    ap (λ x. nearest x n) (pos-*ℤ-pos n k ∙ ap pos product) ∙ near_pos (k * n) n k (multiple_near k n some)
nearest_whole (negsuc k) n some =
    let product : n * suc k ≡ suc k * n = omega arith in
    ap (λ x. nearest x n) (pos-*ℤ-negsuc n k ∙ ap (λ (x : ℕ). neg_ℤ (pos x)) product) ∙ near_neg (suc k * n) n (suc k) (multiple_near (suc k) n some)

-- ---- signs

pub times_negative : (x y : ℤ) → x *ℤ neg_ℤ y ≡ neg_ℤ (x *ℤ y)
times_negative x (pos zero) = *ℤ-zero x ∙ sym (ap neg_ℤ (*ℤ-zero x))
times_negative x (pos (suc n)) = *ℤ-negsuc x n
times_negative x (negsuc n) = sym (ap neg_ℤ (*ℤ-negsuc x n) ∙ neg_ℤ-neg_ℤ (x *ℤ pos (suc n)))

pub negative_times : (x y : ℤ) → neg_ℤ x *ℤ y ≡ neg_ℤ (x *ℤ y)
negative_times x y = *ℤ_comm (neg_ℤ x) y ∙ (times_negative y x ∙ ap neg_ℤ (*ℤ_comm y x))

-- a product of a gain, a component and a factor, where the gain and the factor are nearly the inverse of each other
pub component_back : (gain factor n : ℕ) (z : ℤ) → IsNear (gain * unsigned_abs z * factor) n (unsigned_abs z) → nearest ((pos gain *ℤ z) *ℤ pos factor) n ≡ z
component_back gain factor n (pos k) near =
    ap (λ x. nearest x n) (ap (λ x. x *ℤ pos factor) (pos-*ℤ-pos gain k) ∙ pos-*ℤ-pos (gain * k) factor) ∙ near_pos (gain * k * factor) n k near
component_back gain factor n (negsuc k) near =
    ap (λ x. nearest x n) (ap (λ x. x *ℤ pos factor) (pos-*ℤ-negsuc gain k) ∙ (negative_times (pos (gain * suc k)) (pos factor) ∙ ap neg_ℤ (pos-*ℤ-pos (gain * suc k) factor)))
    ∙ near_neg (gain * suc k * factor) n (suc k) near
