-- What a word's division leaves: zeros where it is a word of the code, and the word's values at the generator's roots.
use Rattle.std.specs.Prelude.{ℕ, zero, suc, ◌≡◌, ◌+◌, ◌-◌, ◌*◌, ◌^◌, ◌<◌, ◌≤◌, refl, Bool, true, false, List, [], ◌∷◌, ◌++◌, length, take, drop, replicate}
use Rattle.std.proofs.Common.{sym, ◌∙◌, ap, ap₂, subst, arith, inl, inr, length-take, length-drop}
use Rattle.std.proofs.lemmas.List.{take-append-drop}
use Rattle.std.proofs.lemmas.Bool.{cases_lt}
use lib.Pow.{pow_pos}
use Rattle.s2_field.specs.Operations.{Operations}
use Rattle.s2_field.specs.Laws.{FieldLaws}
use Rattle.s2_bits.specs.Bits.{added, differences, number_of}
use Rattle.s2_bits.proofs.Sums.{xor_same}
use Rattle.s2_bch.specs.Words.{IsMultiple}
use Rattle.s2_bch.proofs.WordFacts.{encoded-is-word, word-unique, length-added}
use Rattle.s2_bch.proofs.LocatorTheory.{zero-add as nil-add}
use Rattle.s2_bch.proofs.ValueFacts.{value, value-sum, multiple-root}
use Rattle.s2_bch.specs.Values.{HasRoots, HaveSameValues}
use Rattle.s2_bch.specs.declared.register.Register.{Register}
use Rattle.s2_bch.specs.Registers.{value_of, Holds, rest_of}
use Rattle.s2_bch.proofs.MessageFacts.{divided, length-divided}
use Rattle.s2_bch.proofs.RegisterFacts.{zeros-number}

-- a sum of number zero is of equal words
sum-zero : (u w : List Bool) → length u ≡ length w → number_of (added u w) ≡ 0 → u ≡ w
sum-zero [] [] e h = refl
sum-zero [] (c ∷ w) e h = absurd (omega arith)
sum-zero (b ∷ u) [] e h = absurd (omega arith)
sum-zero (true ∷ u) (true ∷ w) e h = ap (λ x. true ∷ x) (sum-zero u w (omega arith) (omega arith))
sum-zero (true ∷ u) (false ∷ w) e h = absurd (let p : 0 < 2 ^ length (added u w) = pow_pos (length (added u w)) in omega arith)
sum-zero (false ∷ u) (true ∷ w) e h = absurd (let p : 0 < 2 ^ length (added u w) = pow_pos (length (added u w)) in omega arith)
sum-zero (false ∷ u) (false ∷ w) e h = ap (λ x. false ∷ x) (sum-zero u w (omega arith) (omega arith))

sum-self : (u : List Bool) → added u u ≡ replicate (length u) false
sum-self [] = refl
sum-self (b ∷ u) = ap₂ (λ x y. x ∷ y) (xor_same b) (sum-self u)

sum-front : (u r p : List Bool) → added (u ++ r) (u ++ p) ≡ replicate (length u) false ++ added r p
sum-front [] r p = refl
sum-front (b ∷ u) r p = ap₂ (λ x y. x ∷ y) (xor_same b) (sum-front u r p)

zero-factor : (n p : ℕ) → 0 < p → n * p ≡ 0 → n ≡ 0
zero-factor zero p h e = refl
zero-factor (suc n) p h e = absurd (let q : suc n * p ≡ p + n * p = omega arith in omega arith)

module _ (t : List Bool) (k : ℕ) (w : List Bool) (size : length w ≡ k + length t) where
  length-front : length (take k w) ≡ k
  length-front = omega (arith, length-take {A = Bool})

  same-size : length (divided t (take k w)) ≡ length (drop k w)
  same-size = omega (arith, length-divided t (take k w), length-drop k w)

  pub length-rest : length (rest_of t k w) ≡ length t
  length-rest = omega (arith, length-added (divided t (take k w)) (drop k w), length-drop k w)

  -- where nothing is left, the word is a multiple
  pub zero_rest : (r : Register) → Holds r (rest_of t k w) → value_of r ≡ 0 → IsMultiple (true ∷ t) w
  zero_rest r h z =
      let p : 0 < 2 ^ (192 - length (rest_of t k w)) = pow_pos (192 - length (rest_of t k w)) in
      let none : number_of (rest_of t k w) ≡ 0 = zero-factor _ _ p (sym h.value ∙ z) in
      let same : divided t (take k w) ≡ drop k w = sum-zero _ _ same-size none in
      subst (IsMultiple (true ∷ t)) (ap (λ u. take k w ++ u) same ∙ take-append-drop k w) (encoded-is-word t (take k w)).multiple

  -- of a multiple nothing is left
  pub word_rest : (r : Register) → Holds r (rest_of t k w) → IsMultiple (true ∷ t) w → value_of r ≡ 0
  word_rest r h m =
      let front : take k w ++ divided t (take k w) ≡ w =
      word-unique t (take k w) _ w (encoded-is-word t (take k w))
      (record { front = ap (λ n. take n w) length-front; size = omega (arith, length-front); multiple = m }) in
      let back : divided t (take k w) ≡ drop k w =
      sym (drop-front (take k w) (divided t (take k w))) ∙ ap₂ drop length-front front in
      let none : number_of (rest_of t k w) ≡ 0 =
      ap (λ u. number_of (added u (drop k w))) back ∙ ap number_of (sum-self (drop k w)) ∙ zeros-number (length (drop k w)) in
      let p : ℕ = 2 ^ (192 - length (rest_of t k w)) in
      let nothing : 0 * p ≡ 0 = omega arith in
      h.value ∙ ap (λ n. n * p) none ∙ nothing
    where
      drop-front : (u v : List Bool) → drop (length u) (u ++ v) ≡ v
      drop-front [] v = refl
      drop-front (b ∷ u) v = drop-front u v

  module _ {F : Type 0} (field : Operations F) (L : FieldLaws field) where
    value-zeros : (n : ℕ) (v : List Bool) (x : F) → value field L (replicate n false ++ v) x ≡ value field L v x
    value-zeros zero v x = refl
    value-zeros (suc n) v x = nil-add field L _ ∙ value-zeros n v x

    -- the rest has the word's values at the generator's roots
    rest-value : (x : F) → value field L (true ∷ t) x ≡ field.zero
        → value field L (rest_of t k w) x ≡ value field L w x
    rest-value x root =
        let u : List Bool = take k w ++ divided t (take k w) in
        let lu : length u ≡ length w = omega (arith, (encoded-is-word t (take k w)).size, length-front) in
        let some : 0 < length (true ∷ t) = omega arith in
        let joined : added u w ≡ replicate (length (take k w)) false ++ rest_of t k w =
        ap (added u) (sym (take-append-drop k w)) ∙ sum-front (take k w) (divided t (take k w)) (drop k w) in
        sym (value-zeros (length (take k w)) (rest_of t k w) x)
        ∙ sym (ap (λ v. value field L v x) joined)
        ∙ value-sum field L u w x lu
        ∙ ap (λ v. field.sum v (value field L w x))
        (multiple-root field L (true ∷ t) u x some (encoded-is-word t (take k w)).multiple root)
        ∙ nil-add field L _

    pub rest_values : (a : F) (r : ℕ) → HasRoots field a r (true ∷ t) → HaveSameValues field a r (rest_of t k w) w
    rest_values a r roots = record { same = λ j hj. rest-value _ (roots.root j hj) }

    pub values_of_rest : (a : F) (r : ℕ) (rest : List Bool) → rest ≡ rest_of t k w → HasRoots field a r (true ∷ t)
        → HaveSameValues field a r rest w
    values_of_rest a r rest e roots = subst (λ v. HaveSameValues field a r v w) (sym e) (rest_values a r roots)

-- the only candidate is no multiple
pub none_left : (limit k : ℕ) (t r w v : List Bool) (s : Register) → length w ≡ k + length t → Holds s (rest_of t k w) → (value_of s ≡ 0 → ⊥)
    → IsMultiple (true ∷ t) v → (differences (length r) r v ≤ limit → w ≡ v) → limit < differences (length r) r v
none_left limit k t r w v s size h left mv only =
    elim (cases_lt limit (differences (length r) r v)) [
      | inl far ↦ far
      | inr near ↦ absurd (left (word_rest t k w size s h (subst (IsMultiple (true ∷ t)) (sym (only near)) mv)))
    ]
