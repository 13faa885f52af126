-- The factor that inverts a gain on an axis, nearly.
use Rattle.std.proofs.Common.{◌≡◌, ℕ, zero, suc, ◌+◌, ◌-◌, ◌*◌, ◌/◌, ◌%◌, ◌^◌, ◌≤◌, ◌<◌, max, ℤ, pos, negsuc, ◌+ℤ◌, ◌*ℤ◌, neg_ℤ, unsigned_abs, inl, inr, refl, ap, ap₂, ◌∙◌, sym, arith, mul-le-mul}
use Rattle.std.specs.Int.{int_div_euclid, leading_zeros, w64}
use Rattle.std.proofs.lemmas.Bool.{cases_lt}
use Rattle.std.proofs.lemmas.Int.{ints}
use Rattle.std.proofs.lemmas.Nat.{div-add-mod', leading_length, mod_below, pow-add}
use lib.IntN.{neg_ℤ-neg_ℤ, pos-*ℤ-pos, *ℤ-zero}
use Rattle.std.proofs.Math.Nat.{div-eq_of_lt}
use Rattle.s2_equalize.specs.declared.complex.Complex.{Complex}
use Rattle.s2_equalize.specs.Complex.{complex, conjugate, energy, nearest, over, scaled}
use Rattle.s2_equalize.specs.Equalizer.{digits, divisor, reciprocal}
use Rattle.s2_equalize.proofs.Axes.{axis, axis_back, negative_multiple, nearest_none}
use Rattle.s2_equalize.proofs.Exact.{IsNear}

-- what a quotient is at most away from: m is x / n, to half of n
pub record IsRounded (x n m : ℕ) : Type 0 where
  pub over : 2 * x ≤ 2 * (m * n) + n
  pub under : 2 * (m * n) ≤ 2 * x + n

rounded_pos : (x n : ℕ) → 0 < n → (m : ℕ) × (nearest (pos x) n ≡ pos m) × IsRounded x n m
unfolding nearest
rounded_pos x n some =
    let m = (x + n / 2) / n in
    let split : (x + n / 2) / n * n + (x + n / 2) % n ≡ x + n / 2 = div-mod in
    let rest : (x + n / 2) % n < n = mod_below (x + n / 2) n some in
    (m, refl, record { over = omega (arith, split, rest); under = omega (arith, split) })
  where
    div-mod : (x + n / 2) / n * n + (x + n / 2) % n ≡ x + n / 2
    div-mod = div-add-mod' (x + n / 2) n

rounded_neg : (x n : ℕ) → 0 < n → (m : ℕ) × (nearest (neg_ℤ (pos x)) n ≡ neg_ℤ (pos m)) × IsRounded x n m
unfolding nearest
rounded_neg x n some =
    elim (cases_lt (n / 2) x) [
      | inl less ↦
          let y = x - n / 2 - 1 in
          let sum : neg_ℤ (pos x) +ℤ pos (n / 2) ≡ negsuc y = omega (arith, ints, less) in
          let split : y / n * n + y % n ≡ y = div-add-mod' y n in
          let rest : y % n < n = mod_below y n some in
          let next : suc (y / n) * n ≡ y / n * n + n = omega arith in
          (suc (y / n), ap (λ z. int_div_euclid z (pos n)) sum, record { over = omega (arith, split, rest, next, less); under = omega (arith, split, next, less) })
      | inr more ↦
          let sum : neg_ℤ (pos x) +ℤ pos (n / 2) ≡ pos (n / 2 - x) = omega (arith, ints, more) in
          let none : (n / 2 - x) / n ≡ 0 = div-eq_of_lt (omega (arith, some)) in
          let zero_product : 0 * n ≡ 0 = omega arith in
          (0, ap (λ z. int_div_euclid z (pos n)) sum ∙ ap pos none, record { over = omega (arith, more, zero_product); under = omega (arith, zero_product) })
    ]

-- ---- the digits of a number on an axis

digits_of : (n : ℕ) → n < 2 ^ 64 → (n < 2 ^ (64 - leading_zeros w64 n)) × (2 ^ (64 - leading_zeros w64 n) ≤ 2 * n + 1)
digits_of n small =
    let counted = leading_length 64 n small in
    by (leading_zeros w64 n) counted.0 counted.1 counted.2 counted.3
  where
    by : (zeros m : ℕ) → zeros + m ≡ 64 → n < 2 ^ m → 2 ^ m ≤ 2 * n + 1 → (n < 2 ^ (64 - zeros)) × (2 ^ (64 - zeros) ≤ 2 * n + 1)
    by zeros m sum above below =
        let same : 2 ^ m ≡ 2 ^ (64 - zeros) = ap (λ (k : ℕ). 2 ^ k) (omega (arith, sum)) in
        (omega (arith, same, above), omega (arith, same, below))

digits_axis : (q g : ℕ) → digits (axis q g) ≡ 64 - leading_zeros w64 g
unfolding digits
digits_axis zero g = ap (λ (n : ℕ). 64 - leading_zeros w64 n) (omega (arith, ints))
digits_axis (suc zero) g = ap (λ (n : ℕ). 64 - leading_zeros w64 n) (omega (arith, ints))
digits_axis (suc (suc zero)) g = ap (λ (n : ℕ). 64 - leading_zeros w64 n) (omega (arith, ints))
digits_axis (suc (suc (suc n))) g = ap (λ (n : ℕ). 64 - leading_zeros w64 n) (omega (arith, ints))

pub record HasDigits (g b : ℕ) : Type 0 where
  pub above : g < 2 ^ b
  pub below : 2 ^ b ≤ 2 * g + 1

pub axis_digits : (q g : ℕ) → g < 2 ^ 64 → HasDigits g (digits (axis q g))
axis_digits q g small =
    let bounds = digits_of g small in
    let same = ap (λ (k : ℕ). 2 ^ k) (digits_axis q g) in
    record { above = omega (arith, same, bounds.0); below = omega (arith, same, bounds.1) }

-- ---- the divisor

size_negative : (g : ℕ) → unsigned_abs (neg_ℤ (pos g)) ≡ g
size_negative g = omega (arith, ints)

energy_axis : (q g : ℕ) → energy (axis q g) ≡ g * g
energy_axis zero g = omega arith
energy_axis (suc zero) g = omega arith
energy_axis (suc (suc zero)) g = ap (λ (n : ℕ). n * n + 0 * 0) (size_negative g) ∙ omega arith
energy_axis (suc (suc (suc n))) g = ap (λ (k : ℕ). 0 * 0 + k * k) (size_negative g) ∙ omega arith

quarter_less : (g b : ℕ) → 1 ≤ g → 2 ^ b ≤ 2 * g + 1 → 2 ^ (2 * b) / 16 ≤ g * g
quarter_less g b some below =
    let twice : 2 * b ≡ b + b = omega arith in
    let split : 2 ^ (2 * b) ≡ 2 ^ b * 2 ^ b = ap (λ (k : ℕ). 2 ^ k) twice ∙ pow-add 2 b b in
    let square : 2 ^ b * 2 ^ b ≤ (2 * g + 1) * (2 * g + 1) = mul-le-mul below below in
    let same : g ≤ g = omega arith in
    let more : g * 1 ≤ g * g = mul-le-mul same some in
    omega (arith, split, square, more, some)

pub divisor_axis : (q g b : ℕ) → 1 ≤ g → 2 ^ b ≤ 2 * g + 1 → divisor b (axis q g) ≡ g * g
unfolding divisor
divisor_axis q g b some below =
    let quarter = quarter_less g b some below in
    let all = energy_axis q g in
    let same : g ≤ g = omega arith in
    let more : g * 1 ≤ g * g = mul-le-mul same some in
    omega (arith, quarter, all, more, some)

-- ---- the factor

conjugate_axis : (q g : ℕ) → conjugate (axis q g) ≡ axis_back q g
conjugate_axis zero g = refl
conjugate_axis (suc zero) g = refl
conjugate_axis (suc (suc zero)) g = refl
conjugate_axis (suc (suc (suc n))) g = ap (complex (pos 0)) (neg_ℤ-neg_ℤ (pos g))

scaled_back : (q k n : ℕ) → scaled k (axis_back q n) ≡ axis_back q (k * n)
scaled_back zero k n = ap₂ complex (pos-*ℤ-pos k n) (*ℤ-zero (pos k))
scaled_back (suc zero) k n = ap₂ complex (*ℤ-zero (pos k)) (negative_multiple k n)
scaled_back (suc (suc zero)) k n = ap₂ complex (negative_multiple k n) (*ℤ-zero (pos k))
scaled_back (suc (suc (suc j))) k n = ap₂ complex (*ℤ-zero (pos k)) (pos-*ℤ-pos k n)

over_back : (q x n : ℕ) → 0 < n → (w : ℕ) × (over n (axis_back q x) ≡ axis_back q w) × IsRounded x n w
over_back zero x n some = let r = rounded_pos x n some in (r.0, ap₂ complex r.1 (nearest_none n some), r.2)
over_back (suc zero) x n some = let r = rounded_neg x n some in (r.0, ap₂ complex (nearest_none n some) r.1, r.2)
over_back (suc (suc zero)) x n some = let r = rounded_neg x n some in (r.0, ap₂ complex r.1 (nearest_none n some), r.2)
over_back (suc (suc (suc k))) x n some = let r = rounded_pos x n some in (r.0, ap₂ complex (nearest_none n some) r.1, r.2)

-- a common factor of both sides
cancelled : (g x y : ℕ) → 0 < g → g * x ≤ g * y → x ≤ y
cancelled g x y some le =
    elim (cases_lt y x) [
      | inl less ↦
          let next : y + 1 ≤ x = omega (arith, less) in
          let same : g ≤ g = omega arith in
          let more : g * (y + 1) ≤ g * x = mul-le-mul same next in
          absurd (omega (arith, more, le, some))
      | inr fits ↦ fits
    ]

-- the factor is nearly n / gain, where n is 2^(b + 2)
pub record Inverts (gain n w : ℕ) : Type 0 where
  pub over : 2 * n ≤ 2 * w * gain + gain
  pub under : 2 * w * gain ≤ 2 * n + gain

inverts : (gain p n w : ℕ) → 1 ≤ gain → p ≡ 1024 * n → IsRounded (p * (1024 * gain)) (1024 * gain * (1024 * gain)) w → Inverts gain n w
inverts gain p n w some power r =
    let g = 1024 * gain in
    let over = r.over in
    let under = r.under in
    let over_product : g * (2 * p) ≤ g * (2 * w * g + g) = omega (arith, over) in
    let under_product : g * (2 * w * g) ≤ g * (2 * p + g) = omega (arith, under) in
    let over_part = cancelled g (2 * p) (2 * w * g + g) (omega (arith, some)) over_product in
    let under_part = cancelled g (2 * w * g) (2 * p + g) (omega (arith, some)) under_product in
    record { over = omega (arith, over_part, power); under = omega (arith, under_part, power) }

pub reciprocal_axis : (q gain b : ℕ) → 1 ≤ gain → 2 ^ b ≤ 2 * (1024 * gain) + 1 → (w : ℕ) × (reciprocal b (axis q (1024 * gain)) ≡ axis_back q w) × Inverts gain (2 ^ (b + 2)) w
unfolding reciprocal
reciprocal_axis q gain b some below =
    let g = 1024 * gain in
    let p = 2 ^ (b + 12) in
    let least : 1 ≤ g = omega (arith, some) in
    let square : 1 * 1 ≤ g * g = mul-le-mul least least in
    let by = divisor_axis q g b least below in
    let product = ap (scaled p) (conjugate_axis q g) ∙ scaled_back q p g in
    let r = over_back q (p * g) (g * g) (omega (arith, square)) in
    let split : b + 12 ≡ b + 2 + 10 = omega arith in
    let power : p ≡ 1024 * 2 ^ (b + 2) = ap (λ (k : ℕ). 2 ^ k) split ∙ (pow-add 2 (b + 2) 10 ∙ omega arith) in
    (r.0, ap₂ over by product ∙ r.1, inverts gain p (2 ^ (b + 2)) r.0 some power r.2)

-- a component that is multiplied by the gain and then by the factor is near to itself
pub near_itself : (gain b w z : ℕ) → 1 ≤ gain → 1024 * gain < 2 ^ b → Inverts gain (2 ^ (b + 2)) w → z ≤ 4095 → IsNear (gain * z * w) (2 ^ (b + 2)) z
near_itself gain b w z some above inv small =
    let n = 2 ^ (b + 2) in
    let power : n ≡ 2 ^ b * 4 = pow-add 2 b 2 in
    let same : gain ≤ gain = omega arith in
    let most : gain * z ≤ gain * 4095 = mul-le-mul same small in
    let less : gain * z < n = omega (arith, power, most, above, some) in
    let each : z ≤ z = omega arith in
    let over_z : z * (2 * n) ≤ z * (2 * w * gain + gain) = mul-le-mul each inv.over in
    let under_z : z * (2 * w * gain) ≤ z * (2 * n + gain) = mul-le-mul each inv.under in
    record { over = omega (arith, under_z, less); under = omega (arith, over_z, less) }
