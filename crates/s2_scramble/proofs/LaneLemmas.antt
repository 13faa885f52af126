-- What each lane of four rotated symbols holds.
use Rattle.std.proofs.Common.{◌≡◌, ℕ, zero, suc, ◌+◌, ◌-◌, ◌%◌, ◌<◌, ℤ, pos, negsuc, cond, eqb, ltb, bit_and, false, List, [], ◌∷◌, ◌++◌, map, replicate, refl, ap, subst, ◌∙◌, inl, inr, arith, le-ltb}
use Rattle.std.specs.Int.{cast_unsigned}
use Rattle.std.specs.Int.RustNames.{FitsSigned}
use Rattle.std.proofs.lemmas.Bool.{cases_eq, cases_lt}
use Rattle.std.proofs.lemmas.Bool.Decides.{nat_tests}
use lib.Lanes.{top, zip2, sel_l, pick_l}
use mir.Syntax.{w16}
use Rattle.s2_mode.specs.declared.symbols.Symbol.{Symbol}
use Rattle.s2_mode.specs.Symbols.{IsSymbol, symbol_at}
use Rattle.s2_scramble.specs.Rotations.{negative, rotated}
use Rattle.s2_mode.specs.Lanes.{words_of}
use Rattle.s2_scramble.specs.Lanes.{twice}

-- the word of the negative of a word's number
abbrev pub negated : ℕ → ℕ
negated w = ((0 + (65536 - w)) % 65536 + cond (top 15 (cond (eqb w 32768) 65535 0)) 65535 0) % 65536

-- what a lane holds whose symbol is rotated by k quarters
abbrev pub lane : ℕ → ℕ → ℕ → ℕ → ℕ
lane offset k own other =
    let chosen = cond (top 15 (cond (eqb (bit_and k 1) 1) 65535 0)) other own in
    cond (top 15 (cond (eqb (bit_and ((k + offset) % 65536) 2) 2) 65535 0)) (negated chosen) chosen

negated_is : (z : ℤ) → FitsSigned w16 z → negated (cast_unsigned w16 z) ≡ cast_unsigned w16 (negative z)
negated_is (pos zero) fits = refl
negated_is (pos (suc n)) fits =
    let few = fits.sfits in
    let other : eqb (suc n) 32768 ≡ false = grind (arith, nat_tests) in
    rw other (omega arith)
negated_is (negsuc n) fits =
    let few = fits.sfits in
    elim (cases_eq n 32767) [
      | inl e ↦ rw e refl
      | inr ne ↦ (
          let other : eqb (65536 - suc n) 32768 ≡ false = grind (arith, nat_tests) in
          let low : ltb 32767 (suc n) ≡ false = le-ltb 32767 (suc n) (omega arith) in
          rw other (rw low (omega arith))
          )
    ]

i_is : (k : ℕ) (s : Symbol) → k < 4 → IsSymbol s → lane 1 k (cast_unsigned w16 s.i) (cast_unsigned w16 s.q) ≡ cast_unsigned w16 (rotated k s).i
i_is zero s lt fits = refl
i_is (suc zero) s lt fits = negated_is s.q fits.q
i_is (suc (suc zero)) s lt fits = negated_is s.i fits.i
i_is (suc (suc (suc zero))) s lt fits = refl
i_is (suc (suc (suc (suc k)))) s lt fits = absurd (omega arith)

q_is : (k : ℕ) (s : Symbol) → k < 4 → IsSymbol s → lane 0 k (cast_unsigned w16 s.q) (cast_unsigned w16 s.i) ≡ cast_unsigned w16 (rotated k s).q
q_is zero s lt fits = refl
q_is (suc zero) s lt fits = refl
q_is (suc (suc zero)) s lt fits = negated_is s.q fits.q
q_is (suc (suc (suc zero))) s lt fits = negated_is s.i fits.i
q_is (suc (suc (suc (suc k)))) s lt fits = absurd (omega arith)

abbrev pub both : ℕ → Symbol → List ℕ → List ℕ
both k s rest = lane 1 k (cast_unsigned w16 s.i) (cast_unsigned w16 s.q) ∷ lane 0 k (cast_unsigned w16 s.q) (cast_unsigned w16 s.i) ∷ rest

pub four_rotated : (k l m n : ℕ) (a b c d : Symbol) → k < 4 → l < 4 → m < 4 → n < 4 → IsSymbol a → IsSymbol b → IsSymbol c → IsSymbol d
    → both k a (both l b (both m c (both n d []))) ≡ words_of (rotated k a) (rotated l b) (rotated m c) (rotated n d)
four_rotated k l m n a b c d lk ll lm ln fa fb fc fd =
    λ t. i_is k a lk fa t ∷ q_is k a lk fa t ∷ i_is l b ll fb t ∷ q_is l b ll fb t ∷ i_is m c lm fc t ∷ q_is m c lm fc t ∷ i_is n d ln fd t ∷ q_is n d ln fd t ∷ []

-- all ones where two numbers are the same
abbrev pub same : ℕ → ℕ → ℕ
same a b = cond (eqb a b) 65535 0

-- a choice by the lanes that are the same
abbrev pub where_same : List ℕ → List ℕ → List ℕ → List ℕ → List ℕ
where_same us vs xs ys = sel_l (map (top 15) (zip2 same us vs)) xs ys

-- the words exchanged where their number of quarters is odd
abbrev pub chosen : List ℕ → List ℕ → List ℕ
chosen quarters words = where_same (zip2 bit_and quarters (replicate 8 1)) (replicate 8 1) (pick_l 0 (words ++ words) (1 ∷ 0 ∷ 3 ∷ 2 ∷ 5 ∷ 4 ∷ 7 ∷ 6 ∷ [])) words

-- and with their signs
abbrev pub signed : List ℕ → List ℕ → List ℕ
signed quarters xs =
    where_same (zip2 bit_and (zip2 (λ a b. (a + b) % 65536) quarters (1 ∷ 0 ∷ 1 ∷ 0 ∷ 1 ∷ 0 ∷ 1 ∷ 0 ∷ [])) (replicate 8 2)) (replicate 8 2)
    (zip2 (λ a b. (a + b) % 65536) (zip2 (λ a b. (a + (65536 - b)) % 65536) (replicate 8 0) xs) (where_same xs (replicate 8 32768) (replicate 8 65535) (replicate 8 0)))
    xs

abbrev pub rotated_lanes : List ℕ → List ℕ → List ℕ
rotated_lanes quarters words = signed quarters (chosen quarters words)

negative-fits : (z : ℤ) → FitsSigned w16 z → FitsSigned w16 (negative z)
negative-fits (pos zero) fits = record { sfits = omega arith }
negative-fits (pos (suc n)) fits = let few = fits.sfits in record { sfits = omega arith }
negative-fits (negsuc n) fits =
    let few = fits.sfits in
    elim (cases_eq n 32767) [
      | inl e ↦ rw e (record { sfits = omega arith })
      | inr ne ↦ (let low : ltb 32767 (suc n) ≡ false = le-ltb 32767 (suc n) (omega arith) in rw low (record { sfits = omega arith }))
    ]

pub rotated-fits : (k : ℕ) (s : Symbol) → k < 4 → IsSymbol s → IsSymbol (rotated k s)
rotated-fits zero s lt fits = fits
rotated-fits (suc zero) s lt fits = record { i = negative-fits s.q fits.q; q = fits.i }
rotated-fits (suc (suc zero)) s lt fits = record { i = negative-fits s.i fits.i; q = negative-fits s.q fits.q }
rotated-fits (suc (suc (suc zero))) s lt fits = record { i = fits.q; q = negative-fits s.i fits.i }
rotated-fits (suc (suc (suc (suc k)))) s lt fits = absurd (omega arith)

-- the number of quarters back, by words
back_word : ℕ → ℕ
back_word k = bit_and ((4 + (65536 - k)) % 65536) 3

back_is : (k : ℕ) → k < 4 → back_word k ≡ (4 - k) % 4
unfolding back_word
back_is zero lt = refl
back_is (suc zero) lt = refl
back_is (suc (suc zero)) lt = refl
back_is (suc (suc (suc zero))) lt = refl
back_is (suc (suc (suc (suc k)))) lt = absurd (omega arith)

abbrev pub back_lanes : List ℕ → List ℕ
back_lanes quarters = zip2 bit_and (zip2 (λ a b. (a + (65536 - b)) % 65536) (replicate 8 4) quarters) (replicate 8 3)

pub back-twice : (k l m n : ℕ) → k < 4 → l < 4 → m < 4 → n < 4 → back_lanes (twice k l m n) ≡ twice ((4 - k) % 4) ((4 - l) % 4) ((4 - m) % 4) ((4 - n) % 4)
unfolding back_word
back-twice k l m n lk ll lm ln = λ t. twice (back_is k lk t) (back_is l ll t) (back_is m lm t) (back_is n ln t)
