-- The listed polynomials are minimal polynomials: computed on numbers, and carried over to the fields.
use Rattle.std.specs.Prelude.{ℕ, zero, suc, ◌≡◌, ◌≢◌, ◌+◌, ◌-◌, ◌*◌, ◌<◌, ◌≤◌, refl, Bool, true, false, ◌==◌, ◌&&◌, not, List, [], ◌∷◌, length, take, map, reverse, bit_xor}
use Rattle.std.proofs.Common.{sym, ◌∙◌, ap, ap₂, subst, arith, inl, inr, get_or}
use Rattle.std.proofs.lemmas.Bool.{and_parts, eq-eqb}
use Rattle.s2_field.specs.Operations.{Operations}
use Rattle.s2_field.specs.Binary.{times}
use Rattle.s2_field.specs.Polynomials.{pow}
use Rattle.s2_field.specs.Gf16 as gf16
use Rattle.s2_field.specs.Gf14 as gf14
use Rattle.s2_mode.specs.Mode.{Mode, IsMode, t_of}
use Rattle.s2_bits.specs.Bits.{bits_of_number}
use Rattle.s2_bch.specs.Sequences as S
use Rattle.s2_bch.specs.Generators.{minimal_16, minimal_14, generator_16, generator_14, generator_of}
use Rattle.s2_bch.specs.Minimal.{elements, conjugate, conjugate_product, IsMinimal, IsProductOfMinimals}
use Rattle.s2_bch.proofs.GeneratorDegrees.{generator_normal, generator_short}
use Rattle.s2_bch.proofs.GeneratorFacts.{t_normal, t_short}

-- ---- on numbers

-- polynomials with coefficients in the field, the constant first
abbrev sum_lists : List ℕ → List ℕ → List ℕ
sum_lists [] q = q
sum_lists (a ∷ p) [] = a ∷ p
sum_lists (a ∷ p) (b ∷ q) = bit_xor a b ∷ sum_lists p q

abbrev scaled : ℕ → ℕ → ℕ → List ℕ → List ℕ
scaled m low c [] = []
scaled m low c (a ∷ p) = times m low c a ∷ scaled m low c p

-- the product of x + b^(2^i) for i < k
abbrev conjugates : ℕ → ℕ → ℕ → ℕ → List ℕ
conjugates m low zero b = 1 ∷ []
conjugates m low (suc k) b = let p = conjugates m low k (times m low b b) in sum_lists (0 ∷ p) (scaled m low b p)

-- the next n of c^2, c^4, c^8 and so on are not b
abbrev differs : ℕ → ℕ → ℕ → ℕ → ℕ → Bool
differs m low zero b c = true
differs m low (suc n) b c = not (times m low c c == b) && differs m low n b (times m low c c)

-- b^n
abbrev to_power : ℕ → ℕ → ℕ → ℕ → ℕ
to_power m low b zero = 1
to_power m low b (suc n) = times m low b (to_power m low b n)

abbrev digits : List Bool → List ℕ
digits [] = []
digits (true ∷ w) = 1 ∷ digits w
digits (false ∷ w) = 0 ∷ digits w

-- the polynomials are those of a^i, a^(i+2) and so on
abbrev AreMinimal : ℕ → ℕ → ℕ → List ℕ → Type 0
AreMinimal m low i [] = Unit {0}
AreMinimal m low i (f ∷ fs) =
    (digits (reverse (bits_of_number (suc m) f)) ≡ conjugates m low m (to_power m low 2 i))
    × (differs m low (m - 1) (to_power m low 2 i) (to_power m low 2 i) ≡ true)
    × AreMinimal m low (i + 2) fs

minimal-16 : AreMinimal 16 45 1 minimal_16
unfolding times
minimal-16 = (
  refl,
  refl,
  (
    refl,
    refl,
    (
      refl,
      refl,
      (
        refl,
        refl,
        (
          refl,
          refl,
          (
            refl,
            refl,
            (refl, refl, (refl, refl, (refl, refl, (refl, refl, (refl, refl, (refl, refl, tt)))))),
          ),
        ),
      ),
    ),
  ),
)

minimal-14 : AreMinimal 14 43 1 minimal_14
unfolding times
minimal-14 = (
  refl,
  refl,
  (
    refl,
    refl,
    (
      refl,
      refl,
      (
        refl,
        refl,
        (
          refl,
          refl,
          (
            refl,
            refl,
            (refl, refl, (refl, refl, (refl, refl, (refl, refl, (refl, refl, (refl, refl, tt)))))),
          ),
        ),
      ),
    ),
  ),
)

-- ---- in a field whose elements are told apart by numbers

ne_eqb : (x y : ℕ) → not (x == y) ≡ true → x ≢ y
ne_eqb x y h e = let q = eq-eqb x y e in cc

module _ (m low : ℕ) {F : Type 0} (field : Operations F) (number : F → ℕ)
    (number-nil : number field.zero ≡ 0) (number-one : number field.one ≡ 1)
    (number-add : (x y : F) → number (field.sum x y) ≡ bit_xor (number x) (number y))
    (number-mul : (x y : F) → number (field.product x y) ≡ times m low (number x) (number y))
    (same : (x y : F) → number x ≡ number y → x ≡ y) (a : F) (two : number a ≡ 2) where
  abbrev numbers : List F → List ℕ
  numbers [] = []
  numbers (x ∷ xs) = number x ∷ numbers xs

  same-list : (xs ys : List F) → numbers xs ≡ numbers ys → xs ≡ ys
  same-list [] [] e = refl
  same-list [] (y ∷ ys) e = cc
  same-list (x ∷ xs) [] e = cc
  same-list (x ∷ xs) (y ∷ ys) e = ap₂ (λ u us. u ∷ us) (same x y (cc)) (same-list xs ys (cc))

  numbers-plus : (p q : List F) → numbers (S.plus field p q) ≡ sum_lists (numbers p) (numbers q)
  numbers-plus [] q = refl
  numbers-plus (x ∷ p) [] = refl
  numbers-plus (x ∷ p) (y ∷ q) = ap₂ (λ u us. u ∷ us) (number-add x y) (numbers-plus p q)

  numbers-scale : (c : F) (p : List F) → numbers (S.scale field c p) ≡ scaled m low (number c) (numbers p)
  numbers-scale c [] = refl
  numbers-scale c (x ∷ p) = ap₂ (λ u us. u ∷ us) (number-mul c x) (numbers-scale c p)

  numbers-conjugates : (k : ℕ) (b : F) → numbers (conjugate_product field k b) ≡ conjugates m low k (number b)
  numbers-conjugates zero b = ap (λ n. n ∷ []) number-one
  numbers-conjugates (suc k) b =
      let p : List F = conjugate_product field k (field.product b b) in
      let e : numbers p ≡ conjugates m low k (times m low (number b) (number b)) =
      numbers-conjugates k (field.product b b) ∙ ap (conjugates m low k) (number-mul b b) in
      numbers-plus (field.zero ∷ p) (S.scale field b p)
      ∙ ap₂ sum_lists (ap₂ (λ u us. u ∷ us) number-nil e) (numbers-scale b p ∙ ap (scaled m low (number b)) e)

  numbers-elements : (w : List Bool) → numbers (elements field w) ≡ digits w
  numbers-elements [] = refl
  numbers-elements (true ∷ w) = ap₂ (λ u us. u ∷ us) number-one (numbers-elements w)
  numbers-elements (false ∷ w) = ap₂ (λ u us. u ∷ us) number-nil (numbers-elements w)

  number-power : (i : ℕ) → number (pow field a i) ≡ to_power m low 2 i
  number-power zero = number-one
  number-power (suc i) = number-mul a (pow field a i) ∙ ap₂ (times m low) two (number-power i)

  other-conjugate : (n i : ℕ) (b c : F) → differs m low n (number b) (number c) ≡ true → i < n → conjugate field (suc i) c ≢ b
  other-conjugate zero i b c h hi e = absurd (omega arith)
  other-conjugate (suc n) zero b c h hi e =
      ne_eqb _ _ (and_parts _ _ h).0 (sym (number-mul c c) ∙ ap number e)
  other-conjugate (suc n) (suc i) b c h hi e =
      other-conjugate n i b (field.product c c)
      (subst (λ x. differs m low n (number b) x ≡ true) (sym (number-mul c c)) (and_parts _ _ h).1) (omega arith) e

  minimal-at : (f i : ℕ) → digits (reverse (bits_of_number (suc m) f)) ≡ conjugates m low m (to_power m low 2 i)
      → differs m low (m - 1) (to_power m low 2 i) (to_power m low 2 i) ≡ true
      → IsMinimal field m (pow field a i) (bits_of_number (suc m) f)
  minimal-at f i coefficients walk =
      let b : F = pow field a i in
      let back : to_power m low 2 i ≡ number b = sym (number-power i) in
      record {
        product = same-list _ _
            (numbers-elements (reverse (bits_of_number (suc m) f)) ∙ coefficients ∙ ap (conjugates m low m) back ∙ sym (numbers-conjugates m b));
        others = λ j some hj e.
            (let before : j ≡ suc (j - 1) = omega arith in
            other-conjugate (m - 1) (j - 1) b b (subst (λ x. differs m low (m - 1) x x ≡ true) back walk) (omega arith)
            (ap (λ k. conjugate field k b) (sym before) ∙ e));
      }

  each-minimal : (fs : List ℕ) (t i j : ℕ) → AreMinimal m low i fs → t ≤ length fs → j < t
      → IsMinimal field m (pow field a (i + 2 * j)) (get_or (map (bits_of_number (suc m)) (take t fs)) j [])
  each-minimal fs zero i j h le hj = absurd (omega arith)
  each-minimal [] (suc t) i j h le hj = absurd (omega arith)
  each-minimal (f ∷ fs) (suc t) i zero h le hj =
      let e : i ≡ i + 2 * zero = omega arith in
      subst (λ n. IsMinimal field m (pow field a n) (bits_of_number (suc m) f)) e (minimal-at f i h.0 h.1)
  each-minimal (f ∷ fs) (suc t) i (suc j) h le hj =
      let e : i + 2 + 2 * j ≡ i + 2 * suc j = omega arith in
      subst (λ n. IsMinimal field m (pow field a n) (get_or (map (bits_of_number (suc m)) (take t fs)) j [])) e
      (each-minimal fs t (i + 2) j h.2 (omega arith) (omega arith))

-- ---- the two fields

length-first : (n t : ℕ) (fs : List ℕ) → t ≤ length fs → length (map (bits_of_number n) (take t fs)) ≡ t
length-first n zero fs le = refl
length-first n (suc t) [] le = absurd (omega arith)
length-first n (suc t) (f ∷ fs) le = ap suc (length-first n t fs (omega arith))

minimals_16 : (t : ℕ) → t ≤ 12 → IsProductOfMinimals gf16.field 16 t gf16.alpha (generator_16 t)
unfolding generator_16
minimals_16 t le = record {
  factors = map (bits_of_number 17) (take t minimal_16);
  count = length-first 17 t minimal_16 le;
  each = λ j hj.
      each-minimal 16 45 gf16.field gf16.number refl refl (λ x y. refl) (λ x y. refl) gf16.same gf16.alpha refl
      minimal_16 t 1 j minimal-16 le hj;
  product = refl;
}

minimals_14 : (t : ℕ) → t ≤ 12 → IsProductOfMinimals gf14.field 14 t gf14.alpha (generator_14 t)
unfolding generator_14
minimals_14 t le = record {
  factors = map (bits_of_number 15) (take t minimal_14);
  count = length-first 15 t minimal_14 le;
  each = λ j hj.
      each-minimal 14 43 gf14.field gf14.number refl refl (λ x y. refl) (λ x y. refl) gf14.same gf14.alpha refl
      minimal_14 t 1 j minimal-14 le hj;
  product = refl;
}

few_factors : (m : Mode) → IsMode m → m.short ≡ false → t_of m ≤ 12
few_factors m is e = elim (t_normal m is e) [ inl h ↦ omega arith | inr h ↦ elim h [ inl k ↦ omega arith | inr k ↦ omega arith ] ]

pub normal_minimals : (m : Mode) → IsMode m → m.short ≡ false
    → IsProductOfMinimals gf16.field 16 (t_of m) gf16.alpha (generator_of m)
normal_minimals m is e =
    subst (IsProductOfMinimals gf16.field 16 (t_of m) gf16.alpha) (sym (generator_normal m e))
    (minimals_16 (t_of m) (few_factors m is e))

pub short_minimals : (m : Mode) → IsMode m → m.short ≡ true
    → IsProductOfMinimals gf14.field 14 (t_of m) gf14.alpha (generator_of m)
short_minimals m is e =
    subst (IsProductOfMinimals gf14.field 14 (t_of m) gf14.alpha) (sym (generator_short m e))
    (minimals_14 (t_of m) (omega (arith, t_short m is e)))
