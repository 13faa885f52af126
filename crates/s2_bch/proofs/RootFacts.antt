-- The generators' roots, from what computes.
use Rattle.std.specs.Prelude.{ℕ, zero, suc, ◌≡◌, ◌+◌, ◌<◌, refl, Bool, true, false, List, [], ◌∷◌, bit_xor}
use Rattle.std.proofs.Common.{sym, ◌∙◌, ap, ap₂, subst, arith}
use Rattle.std.proofs.lemmas.Bool.{and_parts, eqb-true}
use Rattle.s2_field.specs.Operations.{Operations}
use Rattle.s2_field.specs.Binary.{times}
use Rattle.s2_field.specs.Polynomials as P
use Rattle.s2_field.specs.Gf16 as gf16
use Rattle.s2_field.specs.Gf14 as gf14
use Rattle.s2_bch.specs.Values.{HasRoots}
use Rattle.s2_bch.proofs.Horner.{horner_of, roots_by_horner}
use Rattle.s2_bch.proofs.Tails.{numbers, has_roots}

module _ (m low : ℕ) {F : Type 0} (field : Operations F) (number : F → ℕ)
    (number-nil : number field.zero ≡ 0) (number-one : number field.one ≡ 1)
    (number-add : (x y : F) → number (field.sum x y) ≡ bit_xor (number x) (number y))
    (number-mul : (x y : F) → number (field.product x y) ≡ times m low (number x) (number y))
    (same : (x y : F) → number x ≡ number y → x ≡ y) (a : F) (two : number a ≡ 2) where
  abbrev by_numbers : ℕ → List Bool → ℕ → ℕ
  by_numbers = horner_of (numbers m low)

  number-horner : (v : F) (w : List Bool) (x : F) → number (horner_of field v w x) ≡ by_numbers (number v) w (number x)
  number-horner v [] x = refl
  number-horner v (true ∷ w) x =
      number-horner (field.sum (field.product v x) field.one) w x
      ∙ ap (λ n. by_numbers n w (number x)) (number-add (field.product v x) field.one ∙ ap₂ bit_xor (number-mul v x) number-one)
  number-horner v (false ∷ w) x = number-horner (field.product v x) w x ∙ ap (λ n. by_numbers n w (number x)) (number-mul v x)

  root-from : (g : List Bool) (n j i : ℕ) → has_roots m low g n (number (P.pow field a (suc i))) ≡ true → j < n
      → horner_of field field.zero g (P.pow field a (suc (i + j))) ≡ field.zero
  root-from g zero j i h hj = absurd (omega arith)
  root-from g (suc n) zero i h hj =
      let e : suc (i + zero) ≡ suc i = omega arith in
      ap (λ k. horner_of field field.zero g (P.pow field a k)) e
      ∙ same _ field.zero
      (number-horner field.zero g (P.pow field a (suc i)) ∙ ap (λ n. by_numbers n g (number (P.pow field a (suc i)))) number-nil
      ∙ eqb-true _ 0 (and_parts _ _ h).0 ∙ sym number-nil)
  root-from g (suc n) (suc j) i h hj =
      let e : suc (i + suc j) ≡ suc (suc i + j) = omega arith in
      let up : times m low 2 (number (P.pow field a (suc i))) ≡ number (P.pow field a (suc (suc i))) =
      sym (number-mul a (P.pow field a (suc i)) ∙ ap (λ x. times m low x (number (P.pow field a (suc i)))) two) in
      ap (λ k. horner_of field field.zero g (P.pow field a k)) e
      ∙ root-from g n j (suc i) (subst (λ x. has_roots m low g n x ≡ true) up (and_parts _ _ h).1) (omega arith)

  roots-of : (g : List Bool) (n : ℕ) → number (P.pow field a 1) ≡ 2 → has_roots m low g n 2 ≡ true
      → (j : ℕ) → j < n → horner_of field field.zero g (P.pow field a (suc j)) ≡ field.zero
  roots-of g n start h j hj =
      let e : suc j ≡ suc (zero + j) = omega arith in
      ap (λ k. horner_of field field.zero g (P.pow field a k)) e
      ∙ root-from g n j zero (subst (λ x. has_roots m low g n x ≡ true) (sym start) h) hj

start-16 : gf16.number (P.pow gf16.field gf16.alpha 1) ≡ 2
unfolding times
start-16 = refl

start-14 : gf14.number (P.pow gf14.field gf14.alpha 1) ≡ 2
unfolding times
start-14 = refl

pub roots_normal : (g : List Bool) (n : ℕ) → has_roots 16 45 g n 2 ≡ true → HasRoots gf16.field gf16.alpha n g
roots_normal g n h =
    roots_by_horner gf16.field gf16.laws gf16.alpha n g
    (roots-of 16 45 gf16.field gf16.number refl refl (λ x y. refl) (λ x y. refl) gf16.same gf16.alpha refl g n start-16 h)

pub roots_short : (g : List Bool) (n : ℕ) → has_roots 14 43 g n 2 ≡ true → HasRoots gf14.field gf14.alpha n g
roots_short g n h =
    roots_by_horner gf14.field gf14.laws gf14.alpha n g
    (roots-of 14 43 gf14.field gf14.number refl refl (λ x y. refl) (λ x y. refl) gf14.same gf14.alpha refl g n start-14 h)
