-- How many places differ.
use Rattle.std.specs.Prelude.{ℕ, zero, suc, ◌≡◌, ◌+◌, ◌≤◌, refl, Bool, true, false, List, ◌∷◌, length}
use Rattle.std.proofs.Common.{ap, ap₂, arith, ◌∙◌}
use Rattle.s2_bits.specs.Bits.{xor, bit_at, number, differences}
use Rattle.s2_bits.proofs.Sums.{xor_same}

differences-cons : (n : ℕ) (x y : Bool) (a b : List Bool) → differences (suc n) (x ∷ a) (y ∷ b) ≡ number (xor x y) + differences n a b
differences-cons zero x y a b = omega arith
differences-cons (suc n) x y a b =
    ap (λ k. k + number (xor (bit_at a n) (bit_at b n))) (differences-cons n x y a b) ∙ omega arith

-- the first place, and those behind it
pub distance-cons : (x y : Bool) (a b : List Bool) → differences (length (x ∷ a)) (x ∷ a) (y ∷ b) ≡ number (xor x y) + differences (length a) a b
distance-cons x y a b = differences-cons (length a) x y a b

none : (n : ℕ) (u : List Bool) → differences n u u ≡ 0
none zero u = refl
none (suc n) u = ap₂ (λ a b. a + b) (none n u) (ap number (xor_same (bit_at u n)))

pub distance_self : (u : List Bool) → differences (length u) u u ≡ 0
distance_self u = none (length u) u

number-most : (b : Bool) → number b ≤ 1
number-most true = omega arith
number-most false = omega arith

most : (n : ℕ) (u v : List Bool) → differences n u v ≤ n
most zero u v = omega arith
most (suc n) u v = omega (arith, most n u v, number-most (xor (bit_at u n) (bit_at v n)))

pub distance_most : (u v : List Bool) → differences (length u) u v ≤ length u
distance_most u v = most (length u) u v
