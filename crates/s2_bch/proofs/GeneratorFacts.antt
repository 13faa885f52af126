-- The shape of every mode's generator.
use Rattle.std.specs.Prelude.{ℕ, suc, ◌≡◌, ◌≢◌, ◌⊎◌, ◌+◌, ◌*◌, ◌<◌, ◌≤◌, refl, Bool, true, false, ◌==◌, ◌||◌, List, ◌∷◌, length, drop, if◌then◌else◌}
use Rattle.std.proofs.Common.{sym, ◌∙◌, ap, subst, arith, inl, inr}
use Rattle.std.proofs.lemmas.Bool.{eqb-true}
use Rattle.s2_field.specs.Operations.{Operations}
use Rattle.s2_field.specs.Gf16 as gf16
use Rattle.s2_field.specs.Gf14 as gf14
use Rattle.s2_mode.specs.Mode.{Mode, IsMode, t_of, k_of, kbch_of, rate_of, rate_index, HasCodeSizes}
use Rattle.s2_mode.proofs.Modes.{at_each, at_most_at}
use Rattle.s2_bch.specs.Words.{IsWordOf}
use Rattle.s2_bch.proofs.WordFacts.{word-unique}
use Rattle.s2_bch.specs.Codes.{IsBchWordOf}
use Rattle.s2_bch.specs.Values.{HasRoots}
use Rattle.s2_bch.specs.Generators.{generator_of, generator_16, generator_14}
use Rattle.s2_bch.proofs.Tails.{tail_16_8, tail_16_10, tail_16_12, tail_14_12, generator_16_8-is, generator_16_10-is, generator_16_12-is, generator_14_12-is, roots_16_8, roots_16_10, roots_16_12, roots_14_12}
use Rattle.s2_bch.proofs.GeneratorDegrees.{generator_normal, generator_short}
use Rattle.s2_bch.proofs.RootFacts.{roots_normal, roots_short}

-- ---- t is 8, 10 or 12, and 12 for short frames

either : (a b : Bool) → (a || b) ≡ true → (a ≡ true) ⊎ (b ≡ true)
either true b e = inl refl
either false b e = inr e

abbrev is_t : Mode → Bool
is_t m = if m.short then t_of m == 12 else (t_of m == 8) || ((t_of m == 10) || (t_of m == 12))

t-test : (m : Mode) → IsMode m → is_t m ≡ true
unfolding t_of rate_of rate_index
t-test m is = at_each is_t m refl is

pub t_short : (m : Mode) → IsMode m → m.short ≡ true → t_of m ≡ 12
t_short m is e =
    eqb-true (t_of m) 12 (subst (λ s. (if s then t_of m == 12 else (t_of m == 8) || ((t_of m == 10) || (t_of m == 12))) ≡ true) e (t-test m is))

pub t_normal : (m : Mode) → IsMode m → m.short ≡ false → (t_of m ≡ 8) ⊎ ((t_of m ≡ 10) ⊎ (t_of m ≡ 12))
t_normal m is e =
    elim (either _ _ (subst (λ s. (if s then t_of m == 12 else (t_of m == 8) || ((t_of m == 10) || (t_of m == 12))) ≡ true) e (t-test m is))) [
      | inl h ↦ inl (eqb-true (t_of m) 8 h)
      | inr h ↦ elim (either (t_of m == 10) (t_of m == 12) h) [
        | inl k ↦ inr (inl (eqb-true (t_of m) 10 k))
        | inr k ↦ inr (inr (eqb-true (t_of m) 12 k))
      ]
    ]

-- ---- the generator's shape

-- a generator of so many minimal polynomials begins with 1, has as many more bits as its degree, and has the first 2t powers of
-- a among its roots
pub record IsGeneratorIn {F : Type 0} (field : Operations F) (a : F) (degree t : ℕ) (g : List Bool) : Type 0 where
  pub begins : g ≡ true ∷ drop 1 g
  pub size : length g ≡ suc (degree * t)
  pub roots : HasRoots field a (t + t) g

abbrev pub IsNormalGenerator : ℕ → List Bool → Type 0
IsNormalGenerator = IsGeneratorIn gf16.field gf16.alpha 16

abbrev pub IsShortGenerator : ℕ → List Bool → Type 0
IsShortGenerator = IsGeneratorIn gf14.field gf14.alpha 14

normal-8 : IsNormalGenerator 8 (generator_16 8)
normal-8 = subst (IsNormalGenerator 8) (sym generator_16_8-is)
    (record { begins = refl; size = refl; roots = roots_normal (true ∷ tail_16_8) 16 roots_16_8 })

normal-10 : IsNormalGenerator 10 (generator_16 10)
normal-10 = subst (IsNormalGenerator 10) (sym generator_16_10-is)
    (record { begins = refl; size = refl; roots = roots_normal (true ∷ tail_16_10) 20 roots_16_10 })

normal-12 : IsNormalGenerator 12 (generator_16 12)
normal-12 = subst (IsNormalGenerator 12) (sym generator_16_12-is)
    (record { begins = refl; size = refl; roots = roots_normal (true ∷ tail_16_12) 24 roots_16_12 })

short-12 : IsShortGenerator 12 (generator_14 12)
short-12 = subst (IsShortGenerator 12) (sym generator_14_12-is)
    (record { begins = refl; size = refl; roots = roots_short (true ∷ tail_14_12) 24 roots_14_12 })

pub normal_generator : (m : Mode) → IsMode m → m.short ≡ false → IsNormalGenerator (t_of m) (generator_of m)
normal_generator m is e =
    subst (IsNormalGenerator (t_of m)) (sym (generator_normal m e))
    (elim (t_normal m is e) [
      | inl h ↦ subst (λ t. IsNormalGenerator t (generator_16 t)) (sym h) normal-8
      | inr h ↦ elim h [
        | inl k ↦ subst (λ t. IsNormalGenerator t (generator_16 t)) (sym k) normal-10
        | inr k ↦ subst (λ t. IsNormalGenerator t (generator_16 t)) (sym k) normal-12
      ]
    ])

pub short_generator : (m : Mode) → IsMode m → m.short ≡ true → IsShortGenerator (t_of m) (generator_of m)
short_generator m is e =
    subst (IsShortGenerator (t_of m)) (sym (generator_short m e))
    (subst (λ t. IsShortGenerator t (generator_14 t)) (sym (t_short m is e)) short-12)

-- what stands after a generator's first bit
pub tail_short : (m : Mode) → IsMode m → m.short ≡ true → drop 1 (generator_of m) ≡ tail_14_12
tail_short m is e = ap (drop 1) (generator_short m e ∙ ap generator_14 (t_short m is e) ∙ generator_14_12-is)

pub tail_8 : (m : Mode) → m.short ≡ false → t_of m ≡ 8 → drop 1 (generator_of m) ≡ tail_16_8
tail_8 m e h = ap (drop 1) (generator_normal m e ∙ ap generator_16 h ∙ generator_16_8-is)

pub tail_10 : (m : Mode) → m.short ≡ false → t_of m ≡ 10 → drop 1 (generator_of m) ≡ tail_16_10
tail_10 m e h = ap (drop 1) (generator_normal m e ∙ ap generator_16 h ∙ generator_16_10-is)

pub tail_12 : (m : Mode) → IsMode m → m.short ≡ false → t_of m ≢ 8 → t_of m ≢ 10 → drop 1 (generator_of m) ≡ tail_16_12
tail_12 m is e n8 n10 =
    elim (t_normal m is e) [
      | inl h ↦ absurd (n8 h)
      | inr h ↦ elim h [
        | inl k ↦ absurd (n10 k)
        | inr k ↦ ap (drop 1) (generator_normal m e ∙ ap generator_16 k ∙ generator_16_12-is)
      ]
    ]

some_of : (m : Mode) (s : Bool) → m.short ≡ s → IsMode m → 0 < length (drop 1 (generator_of m))
some_of m true e is =
    let long : length (drop 1 (generator_of m)) ≡ 168 = ap length (tail_short m is e) in
    omega arith
some_of m false e is =
    let g = normal_generator m is e in
    elim (t_normal m is e) [
      | inl h ↦ omega (arith, g.size, ap length g.begins, h)
      | inr h ↦ elim h [
        | inl k ↦ omega (arith, g.size, ap length g.begins, k)
        | inr k ↦ omega (arith, g.size, ap length g.begins, k)
      ]
    ]

pub some_tail : (m : Mode) → IsMode m → 0 < length (drop 1 (generator_of m))
some_tail m is = some_of m m.short refl is

-- ---- lengths

max_bits : (m : Mode) → IsMode m → k_of m ≤ (if m.short then 14400 else 58320)
unfolding k_of rate_of rate_index
max_bits m is = at_most_at k_of (λ m. if m.short then 14400 else 58320) m refl is

pub max_normal : (m : Mode) → IsMode m → m.short ≡ false → k_of m ≤ 58320
max_normal m is e = subst (λ s. k_of m ≤ (if s then 14400 else 58320)) e (max_bits m is)

pub max_short : (m : Mode) → IsMode m → m.short ≡ true → k_of m ≤ 14400
max_short m is e = subst (λ s. k_of m ≤ (if s then 14400 else 58320)) e (max_bits m is)

-- what a code's generator gives, whatever the frames' length
pub record HasGenerator (m : Mode) : Type 0 where
  pub begins : generator_of m ≡ true ∷ drop 1 (generator_of m)
  pub size : k_of m ≡ kbch_of m + length (drop 1 (generator_of m))

has_generator : (m : Mode) (s : Bool) → m.short ≡ s → IsMode m → HasCodeSizes m → HasGenerator m
has_generator m false e is sizes =
    let g = normal_generator m is e in
    record { begins = g.begins; size = omega (arith, sizes.normal_code e, g.size, ap length g.begins) }
has_generator m true e is sizes =
    let g = short_generator m is e in
    record { begins = g.begins; size = omega (arith, sizes.short_code e, g.size, ap length g.begins) }

pub generator_facts : (m : Mode) → IsMode m → HasCodeSizes m → HasGenerator m
generator_facts m is sizes = has_generator m m.short refl is sizes

-- ---- a message's word

begins_with_one : (m : Mode) (s : Bool) → m.short ≡ s → IsMode m → generator_of m ≡ true ∷ drop 1 (generator_of m)
begins_with_one m false e is = (normal_generator m is e).begins
begins_with_one m true e is = (short_generator m is e).begins

-- a message has one word at most
pub one_word : (m : Mode) → IsMode m → (message u v : List Bool) → IsBchWordOf m message u → IsBchWordOf m message v → u ≡ v
one_word m is message u v U V =
    let begins = begins_with_one m m.short refl is in
    word-unique (drop 1 (generator_of m)) message u v (subst (λ g. IsWordOf g message u) begins U) (subst (λ g. IsWordOf g message v) begins V)
