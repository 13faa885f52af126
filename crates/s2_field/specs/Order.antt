-- The order of `x` in a binary field, by a walk over all its powers (EN 302 307-1, 5.3.1).
use Rattle.std.specs.Prelude.{ℕ, zero, suc, ◌≡◌, ◌≢◌, ◌<◌, ◌^◌, refl, Bool, true, ◌==◌, ◌&&◌, not}
use Rattle.std.proofs.Common.{sym, ◌∙◌, ap, subst, arith}
use Rattle.std.proofs.lemmas.Bool.{and_parts, eq-eqb}
use Rattle.s2_field.specs.Binary.{times_x, times, act-times_x, times-one, times_comm, times-act}
use Rattle.s2_field.specs.Inverse.{one-below, times-below}
use Rattle.s2_field.specs.Polynomials.{pow, HasOrder}
use Rattle.s2_field.specs.Operations.{Operations}
use Rattle.s2_field.specs.Elements.{field_of}

-- the n values from v on, each `x` times the one before, are none of them 1
abbrev pub avoids_one : ℕ → ℕ → ℕ → ℕ → Bool
avoids_one m low zero v = true
avoids_one m low (suc n) v = not (v == 1) && avoids_one m low n (times_x m low v)

-- v, multiplied by `x` n times
abbrev pub iterate : ℕ → ℕ → ℕ → ℕ → ℕ
iterate m low zero v = v
iterate m low (suc n) v = iterate m low n (times_x m low v)

pub iterate-last : (m low n v : ℕ) → iterate m low (suc n) v ≡ times_x m low (iterate m low n v)
iterate-last m low zero v = refl
iterate-last m low (suc n) v = iterate-last m low n (times_x m low v)

not-one : (v : ℕ) → not (v == 1) ≡ true → v ≢ 1
not-one v h e = let q = eq-eqb v 1 e in cc

avoided : (m low n v i : ℕ) → avoids_one m low n v ≡ true → i < n → iterate m low i v ≢ 1
avoided m low zero v i h hi = absurd (omega arith)
avoided m low (suc n) v zero h hi = not-one v (and_parts _ _ h).0
avoided m low (suc n) v (suc i) h hi = avoided m low n (times_x m low v) i (and_parts _ _ h).1 (omega arith)

module _ (m low : ℕ) (positive : 0 < m) (low_fits : low < 2 ^ m)
    {F : Type 0} (number : F → ℕ) (below : (x : F) → number x < 2 ^ m) (make : (n : ℕ) → n < 2 ^ m → F)
    (number-make : (n : ℕ) (h : n < 2 ^ m) → number (make n h) ≡ n)
    (same : (x y : F) → number x ≡ number y → x ≡ y)
    (two_fits : 2 < 2 ^ m) (doubled : times_x m low 1 ≡ 2) where
  abbrev field : Operations F
  field = field_of m low positive low_fits number below make number-make same

  abbrev power : ℕ → F
  power i = pow field (make 2 two_fits) i

  pub times-two : (v : ℕ) → v < 2 ^ m → times m low 2 v ≡ times_x m low v
  unfolding times
  times-two v hv =
      times_comm m low positive 2 v two_fits hv ∙ ap (times m low v) (sym doubled) ∙ act-times_x m low m v 1
      ∙ ap (times_x m low) (times-one m low positive v hv)

  number-power : (i : ℕ) → number (power (suc i)) ≡ iterate m low i 2
  number-power zero =
      number-make _ _ ∙ ap (λ x. times m low x (number field.one)) (number-make 2 two_fits)
      ∙ ap (times m low 2) (number-make _ _)
      ∙ times-one m low positive 2 two_fits
  number-power (suc i) =
      number-make _ _ ∙ ap (λ x. times m low x (number (power (suc i)))) (number-make 2 two_fits)
      ∙ ap (times m low 2) (number-power i)
      ∙ times-two (iterate m low i 2) (subst (λ v. v < 2 ^ m) (number-power i) (below (power (suc i))))
      ∙ sym (iterate-last m low i 2)

  pub order_of : (n : ℕ) → avoids_one m low n 2 ≡ true → iterate m low n 2 ≡ 1
      → HasOrder field (make 2 two_fits) (suc n)
  order_of n walk last = record {
    power = same _ _ (number-power n ∙ last ∙ sym (number-make _ _));
    least = λ i h0 hi e. not-before i h0 hi e;
  }
    where
      not-before : (i : ℕ) → 0 < i → i < suc n → power i ≡ field.one → ⊥
      not-before zero h0 hi e = absurd (omega arith)
      not-before (suc i) h0 hi e = avoided m low n 2 i walk (omega arith) (sym (number-power i) ∙ ap number e ∙ number-make _ _)

  -- x^i times v
  power-times : (i v : ℕ) → v < 2 ^ m → times m low (number (power i)) v ≡ iterate m low i v
  power-times zero v hv =
      ap (λ x. times m low x v) (number-make _ _) ∙ times_comm m low positive 1 v (one-below m low positive low_fits) hv ∙ times-one m low positive v hv
  power-times (suc i) v hv =
      ap (λ x. times m low x v) (number-make _ _ ∙ ap (λ x. times m low x (number (power i))) (number-make 2 two_fits))
      ∙ times-act m low positive 2 (number (power i)) v two_fits (below (power i)) hv low_fits
      ∙ ap (times m low 2) (power-times i v hv)
      ∙ times-two (iterate m low i v) (subst (λ x. x < 2 ^ m) (power-times i v hv) (times-below m low positive low_fits (number (power i)) v hv))
      ∙ sym (iterate-last m low i v)

  -- the product with a power of `x`, as a number
  pub power_product : (i : ℕ) (x y : F) → number y ≡ iterate m low i (number x)
      → y ≡ field.product (power i) x
  power_product i x y e = same _ _ (e ∙ sym (power-times i (number x) (below x)) ∙ sym (number-make _ _))
