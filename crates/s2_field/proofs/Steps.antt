-- The steps of the loops that multiply and invert.
use Rattle.std.specs.Prelude.{ℕ, suc, ◌≡◌, ◌+◌, ◌-◌, ◌*◌, ◌/◌, ◌%◌, bit_xor, refl}
use Rattle.std.proofs.Common.{sym, ◌∙◌, ap}
use lib.Bits.{xor_assoc, xor_zero_r}
use Rattle.s2_field.specs.Binary.{times_x, act, times, act-times_x}
use Rattle.s2_field.specs.Inverse.{norm, inverse}
use native.Mathlib.Numerals.{add-one}

-- one more digit of `a` is added
pub product_step : (m low k j p a v t : ℕ) → j ≡ suc k → bit_xor p (act m low j a v) ≡ t
    → bit_xor (bit_xor p (a % 2 * v)) (act m low k (a / 2) (times_x m low v)) ≡ t
product_step m low k j p a v t e h =
    xor_assoc p (a % 2 * v) (act m low k (a / 2) (times_x m low v))
    ∙ ap (λ x. bit_xor p (bit_xor (a % 2 * v) x)) (act-times_x m low k (a / 2) v)
    ∙ ap (λ i. bit_xor p (act m low i a v)) (sym e) ∙ h

pub product_end : (m low k p a v t : ℕ) → k ≡ 0 → bit_xor p (act m low k a v) ≡ t → p ≡ t
product_end m low k p a v t e h = sym (xor_zero_r p) ∙ ap (λ i. bit_xor p (act m low i a v)) (sym e) ∙ h

pub product_start : (m low a b : ℕ) → bit_xor 0 (act m low m a b) ≡ times m low a b
unfolding times
product_start m low a b = refl

pub norm_step : (m low k a v : ℕ) → v ≡ norm m low k a → times m low a (times m low v v) ≡ norm m low (k + 1) a
unfolding norm
norm_step m low k a v h = ap (λ x. times m low a (times m low x x)) h ∙ ap (λ i. norm m low i a) (sym (add-one k))

pub norm_start : (m low a : ℕ) → norm m low 0 a ≡ 1
unfolding norm
norm_start m low a = refl

pub inverse_end : (m low k a v : ℕ) → k ≡ m - 1 → v ≡ norm m low k a → times m low v v ≡ inverse m low a
unfolding inverse
inverse_end m low k a v e h = ap (λ x. times m low x x) (h ∙ ap (λ i. norm m low i a) e)
