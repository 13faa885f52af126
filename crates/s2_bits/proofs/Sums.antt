-- Sums of bits.
use Rattle.std.proofs.Common.{◌≡◌, Bool, true, false, refl, sym, ap, ◌∙◌, not}
use mathlib.Core.Bool.{beq}
use Rattle.s2_bits.specs.Bits.{xor}

pub xor_none : (a : Bool) → xor a false ≡ a
xor_none true = refl
xor_none false = refl

pub xor_same : (a : Bool) → xor a a ≡ false
xor_same true = refl
xor_same false = refl

pub xor_comm : (a b : Bool) → xor a b ≡ xor b a
xor_comm true true = refl
xor_comm true false = refl
xor_comm false true = refl
xor_comm false false = refl

pub xor_assoc : (a b c : Bool) → xor (xor a b) c ≡ xor a (xor b c)
xor_assoc true true true = refl
xor_assoc true true false = refl
xor_assoc true false true = refl
xor_assoc true false false = refl
xor_assoc false b c = refl

pub xor_swap : (a b c d : Bool) → xor (xor a b) (xor c d) ≡ xor (xor a c) (xor b d)
xor_swap a b c d =
    xor_assoc a b (xor c d) ∙ ap (xor a) (sym (xor_assoc b c d) ∙ ap (λ x. xor x d) (xor_comm b c) ∙ xor_assoc c b d) ∙ sym (xor_assoc a c (xor b d))

-- what is added twice is gone
pub xor_undone : (a b : Bool) → xor (xor a b) b ≡ a
xor_undone a b = xor_assoc a b b ∙ (ap (xor a) (xor_same b) ∙ xor_none a)

-- a bit between two sums is gone
pub xor_twice : (a b c : Bool) → xor (xor a b) (xor b c) ≡ xor a c
xor_twice a b c = sym (xor_assoc (xor a b) b c) ∙ ap (λ x. xor x c) (xor_undone a b)

-- as `^` computes it
pub xor_code : (a b : Bool) → not (beq a b) ≡ xor a b
xor_code true true = refl
xor_code true false = refl
xor_code false true = refl
xor_code false false = refl
