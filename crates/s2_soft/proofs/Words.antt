-- Words of 16 bits, and the soft values of the components that they stand for.
use Rattle.std.proofs.Common.{◌≡◌, ◌≢◌, ℕ, ◌-◌, ◌*◌, ◌/◌, ◌<◌, min, cond, eqb, true, false, pos, neg_ℤ, ap, ◌∙◌, sym, inl, inr, arith}
use Rattle.std.proofs.lemmas.Bool.{cases_lt, eq-eqb, ne_eqb}
use Rattle.std.proofs.lemmas.Int.{ints, clamps}
use Rattle.s2_bits.specs.Lanes16.{signed16, minus16, magnitude16}
use Rattle.s2_bits.proofs.Words16.{word_low, word_high, negative_word}
use Rattle.s2_mode.specs.Limits.{max_soft}
use Rattle.s2_soft.specs.Divisors.{IsDivisor, factor_of}
use Rattle.s2_soft.specs.Soft.{quantized}
use Rattle.s2_soft.specs.Closed.{component_difference}
use Rattle.s2_soft.proofs.DivisorLemmas.{by_divisors}

-- the size of the soft value of a component of this size, by the factor of the divisor
abbrev pub value_size : ℕ → ℕ → ℕ
value_size f s = min (s * f / 65536) max_soft

small : (q : ℕ) → min q max_soft < 32768
small q = omega arith

above : (d : ℕ) → IsDivisor d → (s : ℕ) → pos (value_size (factor_of d) s) ≡ quantized d (component_difference (pos s))
above d known s =
    by_divisors (λ d. pos (value_size (factor_of d) s) ≡ quantized d (component_difference (pos s))) (omega (arith, ints, clamps)) (omega (arith, ints, clamps)) (omega (arith, ints, clamps)) (omega (arith, ints, clamps)) (omega (arith, ints, clamps)) d known

below : (d : ℕ) → IsDivisor d → (s : ℕ) → neg_ℤ (pos (value_size (factor_of d) s)) ≡ quantized d (component_difference (neg_ℤ (pos s)))
below d known s =
    by_divisors (λ d. neg_ℤ (pos (value_size (factor_of d) s)) ≡ quantized d (component_difference (neg_ℤ (pos s)))) (omega (arith, ints, clamps)) (omega (arith, ints, clamps)) (omega (arith, ints, clamps)) (omega (arith, ints, clamps)) (omega (arith, ints, clamps)) d known

-- the word of a soft value
abbrev pub value_word : ℕ → ℕ → ℕ
value_word f v =
    cond (eqb (v / 32768) 1) (minus16 0 (value_size f (magnitude16 v))) (value_size f (magnitude16 v))

pub value_word_is : (d : ℕ) → IsDivisor d → (v : ℕ) → v < 65536 → signed16 (value_word (factor_of d) v) ≡ quantized d (component_difference (signed16 v))
value_word_is d known v low =
    let f = factor_of d in
    elim (cases_lt v 32768) [
      | inl lt ↦ (
          let plain : v / 32768 ≢ 1 = omega arith in
          let test : eqb (v / 32768) 1 ≡ false = ne_eqb (v / 32768) 1 plain in
          let size : magnitude16 v ≡ v = omega arith in
          ap (λ b. signed16 (cond b (minus16 0 (value_size f (magnitude16 v))) (value_size f (magnitude16 v)))) test
          ∙ word_low (value_size f (magnitude16 v)) (small (magnitude16 v * f / 65536))
          ∙ ap (λ s. pos (value_size f s)) size
          ∙ above d known v
          ∙ ap (λ z. quantized d (component_difference z)) (sym (word_low v lt))
          )
      | inr le ↦ (
          let one : v / 32768 ≡ 1 = omega arith in
          let test : eqb (v / 32768) 1 ≡ true = eq-eqb (v / 32768) 1 one in
          let size : magnitude16 v ≡ 65536 - v = omega arith in
          ap (λ b. signed16 (cond b (minus16 0 (value_size f (magnitude16 v))) (value_size f (magnitude16 v)))) test
          ∙ negative_word (value_size f (magnitude16 v)) (small (magnitude16 v * f / 65536))
          ∙ ap (λ s. neg_ℤ (pos (value_size f s))) size
          ∙ below d known (65536 - v)
          ∙ ap (λ z. quantized d (component_difference z)) (sym (word_high v le low))
          )
    ]
