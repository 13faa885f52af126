-- The steps of a loop that rewrites a list place by place.
use Rattle.std.proofs.Common.{◌≡◌, ℕ, ◌+◌, ◌*◌, Bool, false, ◌<◌, ◌≤◌, ◌≢◌, List, length, get_or, set, refl, subst, ◌∙◌, inl, inr, arith, get_or-set_other, get_or-set_same, length-set}
use Rattle.std.proofs.lemmas.Bool.{cases_lt}
use Rattle.std.proofs.Math.ListN.{get_or-eq_default}
use Rattle.s2_bits.specs.Bits.{Rewritten, bit_at, byte_of}

pub by_order : {P : Type 0} (k i : ℕ) → (k < i → P) → (i ≤ k → P) → P
by_order k i below above = elim (cases_lt k i) [ inl lt ↦ below lt | inr le ↦ above le ]

pub Rewritten-start : {A : Type 0} (d : A) (f : ℕ → A) (xs : List A) → Rewritten d 0 f xs xs
Rewritten-start d f xs = record { long = refl; done = λ k lt. absurd (omega (arith, lt)); left = λ k le. refl }

-- one element is written at i
pub Rewritten-set : {A : Type 0} (d : A) (i : ℕ) (f : ℕ → A) (old now : List A) (x : A) → Rewritten d i f old now → x ≡ f i → i < length old → Rewritten d (i + 1) f old (set now i x)
Rewritten-set d i f old now x before is lt =
    let same : length now ≡ length old = before.long in
    let room : i < length now = omega arith in
    record {
      long = length-set now i x ∙ before.long;
      done = λ k l. by_order k i
          (λ b. let ne : k ≢ i = omega arith in rw get_or-set_other (before.done k b))
          (λ a. let e : i ≡ k = omega arith in subst (λ j. get_or (set now i x) j d ≡ f j) e (rw get_or-set_same is));
      left = λ k l. let ne : k ≢ i = omega arith in rw get_or-set_other (before.left k (omega arith));
    }

-- past the end all bits are zero, and so is the byte
pub byte_past : (bits : List Bool) (i : ℕ) → length bits < 8 * i → byte_of (λ k. bit_at bits (8 * i + k)) ≡ 0
byte_past bits i past =
    let zeros : (k : ℕ) → bit_at bits (8 * i + k) ≡ false = λ k. get_or-eq_default bits false (omega arith) in
    rw (zeros 0, zeros 1, zeros 2, zeros 3, zeros 4, zeros 5, zeros 6, zeros 7)
