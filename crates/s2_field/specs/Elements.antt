-- A type whose values are the numbers below 2^m is a field under `bit_xor` and `times m low` (EN 302 307-1, 5.3.1).
use Rattle.std.specs.Prelude.{ℕ, ◌≡◌, ◌%◌, ◌^◌, ◌<◌, bit_xor, refl, true, List}
use Rattle.std.proofs.Common.{sym, ◌∙◌, ap, ap₂, arith}
use Rattle.std.proofs.lemmas.Nat.{xor_comm, xor_lt}
use lib.Bits.{xor_assoc, xor_self, xor_zero_r}
use lib.Pow.{pow_pos}
use Rattle.s2_field.specs.Binary.{times, times-one, times_comm, times-act, times-xor}
use Rattle.s2_field.specs.Inverse.{squared, choose, agree_at_powers, inverse, one-below, times-below, inverse-below, inverse-times}
use Rattle.s2_field.specs.Operations.{Operations}
use Rattle.s2_field.specs.Laws.{FieldLaws}

one-ne-zero : (n : ℕ) → n ≡ 1 → n ≡ 0 → ⊥
one-ne-zero n h e = omega arith

module _ (m low : ℕ) (positive : 0 < m) (low_fits : low < 2 ^ m)
    {F : Type 0} (number : F → ℕ) (below : (x : F) → number x < 2 ^ m) (make : (n : ℕ) → n < 2 ^ m → F)
    (number-make : (n : ℕ) (h : n < 2 ^ m) → number (make n h) ≡ n)
    (same : (x y : F) → number x ≡ number y → x ≡ y) where
  abbrev pub field_of : Operations F
  field_of = record {
    zero = make 0 (pow_pos m);
    one = make 1 (one-below m low positive low_fits);
    sum = λ x y. make (bit_xor (number x) (number y)) (xor_lt m (number x) (number y) (below x) (below y));
    product = λ x y. make (times m low (number x) (number y)) (times-below m low positive low_fits (number x) (number y) (below y));
    inverse = λ x. make (inverse m low (number x)) (inverse-below m low positive low_fits (number x) (below x));
  }

  -- two values made of equal numbers
  made : (a b : ℕ) (ha : a < 2 ^ m) (hb : b < 2 ^ m) → a ≡ b → make a ha ≡ make b hb
  made a b ha hb e = same (make a ha) (make b hb) (number-make a ha ∙ e ∙ sym (number-make b hb))

  pub laws_of : (cs : List ℕ)
      → agree_at_powers m (squared m low m) (λ a. a) ≡ true
      → agree_at_powers m (λ a. choose cs (bit_xor (times m low a a) a)) (λ a. bit_xor a (a % 2)) ≡ true
      → FieldLaws field_of
  laws_of cs frobenius kernel = record {
    add_comm = λ a b. made _ _ _ _ (xor_comm (number a) (number b));
    add_assoc = λ a b c. made _ _ _ _
        (ap (λ x. bit_xor x (number c)) (number-make _ _) ∙ xor_assoc (number a) (number b) (number c) ∙ ap (bit_xor (number a)) (sym (number-make _ _)));
    add_zero = λ a. same _ _ (number-make _ _ ∙ ap (bit_xor (number a)) (number-make _ _) ∙ xor_zero_r (number a));
    add_self = λ a. made _ _ _ _ (xor_self (number a));
    mul_comm = λ a b. made _ _ _ _ (times_comm m low positive (number a) (number b) (below a) (below b));
    mul_assoc = λ a b c. made _ _ _ _
        (ap (λ x. times m low x (number c)) (number-make _ _)
        ∙ times-act m low positive (number a) (number b) (number c) (below a) (below b) (below c) low_fits
        ∙ ap (times m low (number a)) (sym (number-make _ _)));
    mul_one = λ a. same _ _ (number-make _ _ ∙ ap (times m low (number a)) (number-make _ _) ∙ times-one m low positive (number a) (below a));
    mul_add = λ a b c. made _ _ _ _
        (ap (times m low (number a)) (number-make _ _) ∙ times-xor m low positive (number a) (number b) (number c)
        ∙ ap₂ bit_xor (sym (number-make _ _)) (sym (number-make _ _)));
    mul_inv = λ a nonzero. made _ _ _ _
        (ap (times m low (number a)) (number-make _ _)
        ∙ inverse-times m low positive low_fits cs frobenius kernel (number a) (below a)
        (λ e. nonzero (same _ _ (e ∙ sym (number-make _ _)))));
    one_ne_zero = λ e. one-ne-zero 1 refl (sym (number-make _ _) ∙ ap number e ∙ number-make _ _);
  }
