-- The numbers that words of 16 bits stand for.
use Rattle.std.proofs.Common.{◌≡◌, ℕ, ◌-◌, ◌<◌, ◌≤◌, pos, neg_ℤ, refl, ap, ◌∙◌, inl, inr, arith, lt-ltb, le-ltb}
use Rattle.std.proofs.lemmas.Bool.{cases_eq}
use Rattle.std.proofs.lemmas.Int.{ints}
use Rattle.s2_bits.specs.Lanes16.{signed16, minus16}

pub word_low : (v : ℕ) → v < 32768 → signed16 v ≡ pos v
word_low v low = let test = lt-ltb v 32768 low in rw test refl

pub word_high : (v : ℕ) → 32768 ≤ v → v < 65536 → signed16 v ≡ neg_ℤ (pos (65536 - v))
word_high v high low = let test = le-ltb v 32768 high in rw test (omega (arith, ints))

pub negative_word : (m : ℕ) → m < 32768 → signed16 (minus16 0 m) ≡ neg_ℤ (pos m)
negative_word m small = elim (cases_eq m 0) [
  | inl none ↦ rw none refl
  | inr some ↦ (
      let is : minus16 0 m ≡ 65536 - m = omega arith in
      ap signed16 is ∙ word_high (65536 - m) (omega arith) (omega arith) ∙ (let e : 65536 - (65536 - m) ≡ m = omega arith in ap (λ x. neg_ℤ (pos x)) e)
      )
]
