-- Eight symbols of 8PSK, lane by lane.
use Rattle.std.proofs.Common.{◌≡◌, ℕ, zero, suc, ◌+◌, ◌-◌, ◌*◌, ◌/◌, ◌%◌, ◌<◌, Bool, true, false, cond, T, ltb, ◌&&◌, ◌||◌, List, [], ◌∷◌, get_or, map, inl, inr, refl, ap, subst, ◌∙◌, arith, w16}
use Rattle.std.specs.Int.{cast_unsigned}
use Rattle.std.proofs.lemmas.Bool.{cases_Bool, cases_lt}
use Rattle.std.proofs.lemmas.Simd.{swz_l, SwzOk}
use lib.Lanes.{zip2}
use mir.Val.{zeroes}
use Rattle.s2_mode.specs.declared.symbols.Symbol.{Symbol}
use Rattle.s2_mode.specs.Mode.{Mode, n_of}
use Rattle.s2_mode.specs.Symbols.{IsSymbol, symbol_at}
use Rattle.s2_bits.specs.Bits.{number}
use Rattle.s2_map.specs.Lanes.{psk_label, psk_point, eight}
use Rattle.s2_map.specs.declared.lanes.TheConstants.{I, Q}

-- ---- labels

plus : ℕ → ℕ → ℕ
plus a b = (a + b) % 256

label_is : (a b c : Bool) → plus (plus (plus (plus (number a) (number a)) (number b)) (plus (plus (number a) (number a)) (number b))) (number c) ≡ psk_label a b c
unfolding plus
label_is true true true = refl
label_is true true false = refl
label_is true false true = refl
label_is true false false = refl
label_is false true true = refl
label_is false true false = refl
label_is false false true = refl
label_is false false false = refl

abbrev pub added : List ℕ → List ℕ → List ℕ
added = zip2 (λ a b. (a + b) % 256)

abbrev pub labels_of : List ℕ → List ℕ → List ℕ → List ℕ
labels_of xs ys zs = map (λ x. x) (added (added (added (added xs xs) ys) (added (added xs xs) ys)) zs)

pub labels_are : (a b c : ℕ → Bool) → labels_of (eight (λ k. number (a k))) (eight (λ k. number (b k))) (eight (λ k. number (c k))) ≡ eight (λ k. psk_label (a k) (b k) (c k))
unfolding plus
labels_are a b c =
    λ t. label_is (a 0) (b 0) (c 0) t ∷ label_is (a 1) (b 1) (c 1) t ∷ label_is (a 2) (b 2) (c 2) t ∷ label_is (a 3) (b 3) (c 3) t
    ∷ label_is (a 4) (b 4) (c 4) t ∷ label_is (a 5) (b 5) (c 5) t ∷ label_is (a 6) (b 6) (c 6) t ∷ label_is (a 7) (b 7) (c 7) t ∷ []

-- ---- look-ups

-- a label is a place of a table
in_table : (a b c : Bool) → T (zeroes 8 w16 (psk_label a b c) || (ltb (psk_label a b c) 8 && ltb (0 + psk_label a b c) 8))
in_table true true true = tt
in_table true true false = tt
in_table true false true = tt
in_table true false false = tt
in_table false true true = tt
in_table false true false = tt
in_table false false true = tt
in_table false false false = tt

pub labels_ok : (a b c : ℕ → Bool) → SwzOk w16 8 8 0 (eight (λ k. psk_label (a k) (b k) (c k)))
labels_ok a b c = (
  in_table (a 0) (b 0) (c 0),
  (
    in_table (a 1) (b 1) (c 1),
    (
      in_table (a 2) (b 2) (c 2),
      (
        in_table (a 3) (b 3) (c 3),
        (in_table (a 4) (b 4) (c 4), (in_table (a 5) (b 5) (c 5), (in_table (a 6) (b 6) (c 6), (in_table (a 7) (b 7) (c 7), tt)))),
      ),
    ),
  ),
)

i_is : (a b c : Bool) → cond (zeroes 8 w16 (psk_label a b c)) 0 (get_or I (0 + psk_label a b c) 0) ≡ cast_unsigned w16 (psk_point a b c).i
i_is true true true = refl
i_is true true false = refl
i_is true false true = refl
i_is true false false = refl
i_is false true true = refl
i_is false true false = refl
i_is false false true = refl
i_is false false false = refl

q_is : (a b c : Bool) → cond (zeroes 8 w16 (psk_label a b c)) 0 (get_or Q (0 + psk_label a b c) 0) ≡ cast_unsigned w16 (psk_point a b c).q
q_is true true true = refl
q_is true true false = refl
q_is true false true = refl
q_is true false false = refl
q_is false true true = refl
q_is false true false = refl
q_is false false true = refl
q_is false false false = refl

pub i_words : (a b c : ℕ → Bool) → swz_l w16 8 I 0 (eight (λ k. psk_label (a k) (b k) (c k))) ≡ eight (λ k. cast_unsigned w16 (psk_point (a k) (b k) (c k)).i)
i_words a b c =
    λ t. i_is (a 0) (b 0) (c 0) t ∷ i_is (a 1) (b 1) (c 1) t ∷ i_is (a 2) (b 2) (c 2) t ∷ i_is (a 3) (b 3) (c 3) t
    ∷ i_is (a 4) (b 4) (c 4) t ∷ i_is (a 5) (b 5) (c 5) t ∷ i_is (a 6) (b 6) (c 6) t ∷ i_is (a 7) (b 7) (c 7) t ∷ []

pub q_words : (a b c : ℕ → Bool) → swz_l w16 8 Q 0 (eight (λ k. psk_label (a k) (b k) (c k))) ≡ eight (λ k. cast_unsigned w16 (psk_point (a k) (b k) (c k)).q)
q_words a b c =
    λ t. q_is (a 0) (b 0) (c 0) t ∷ q_is (a 1) (b 1) (c 1) t ∷ q_is (a 2) (b 2) (c 2) t ∷ q_is (a 3) (b 3) (c 3) t
    ∷ q_is (a 4) (b 4) (c 4) t ∷ q_is (a 5) (b 5) (c 5) t ∷ q_is (a 6) (b 6) (c 6) t ∷ q_is (a 7) (b 7) (c 7) t ∷ []

-- ---- symbols that are written

pub point-fits : (a b c : Bool) → IsSymbol (psk_point a b c)
point-fits true true true = record { i = record { sfits = omega arith }; q = record { sfits = omega arith } }
point-fits true true false = record { i = record { sfits = omega arith }; q = record { sfits = omega arith } }
point-fits true false true = record { i = record { sfits = omega arith }; q = record { sfits = omega arith } }
point-fits true false false = record { i = record { sfits = omega arith }; q = record { sfits = omega arith } }
point-fits false true true = record { i = record { sfits = omega arith }; q = record { sfits = omega arith } }
point-fits false true false = record { i = record { sfits = omega arith }; q = record { sfits = omega arith } }
point-fits false false true = record { i = record { sfits = omega arith }; q = record { sfits = omega arith } }
point-fits false false false = record { i = record { sfits = omega arith }; q = record { sfits = omega arith } }

-- the rows of a frame are whole blocks of eight
pub whole_blocks : (m : Mode) (rows : ℕ) → n_of m ≡ 3 * rows → 8 * (rows / 8) ≡ rows
unfolding n_of
whole_blocks m rows is = elim (cases_Bool m.short) [
  | inl short ↦ let size : n_of m ≡ 16200 = rw short refl in omega (arith, is, size)
  | inr normal ↦ let size : n_of m ≡ 64800 = rw normal refl in omega (arith, is, size)
]
