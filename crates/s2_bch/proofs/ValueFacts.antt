-- A word's value at an element of a field, the roots of multiples, and how far words are apart.
use Rattle.std.specs.Prelude.{ℕ, zero, suc, ◌≡◌, ◌≢◌, ◌+◌, ◌-◌, ◌<◌, ◌≤◌, refl, Bool, true, false, List, [], ◌∷◌, length, replicate}
use Rattle.std.proofs.Common.{sym, ◌∙◌, ap, ap₂, arith, inl, inr}
use Rattle.std.proofs.lemmas.Bool.{cases_lt}
use Rattle.s2_field.specs.Operations.{Operations}
use Rattle.s2_field.specs.Laws.{FieldLaws}
use Rattle.s2_bch.specs.Values as V
use Rattle.s2_bch.specs.Values.{pick}
use Rattle.s2_bch.specs.Splitting.{Each, AllDiffer}
use Rattle.s2_bch.proofs.LocatorTheory.{pow, power_sum, coefficients-vanish, zero-mul, mul-zero, zero-add as nil-add, add-mul, add_swap, no_zero_divisors}
use Rattle.s2_bits.specs.Bits.{xor, added, differences}
use Rattle.s2_bch.specs.Words.{times_bit, product, IsMultiple}
use Rattle.s2_bch.proofs.Distances.{distance-cons}
use Rattle.s2_bch.proofs.WordFacts.{length-added, length-times_bit, length-product}

module _ {F : Type 0} (field : Operations F) (L : FieldLaws field) where
  open L use {add_comm, add_assoc, add_zero, add_self, mul_comm, mul_assoc, mul_one, mul_add, mul_inv, one_ne_zero}

  abbrev power : F → ℕ → F
  power = pow field L

  abbrev pub value : List Bool → F → F
  value = V.value_at field

  pick-mul : (b : Bool) (v w : F) → field.product (pick field.zero b v) w ≡ pick field.zero b (field.product v w)
  pick-mul true v w = refl
  pick-mul false v w = zero-mul field L w

  pick-xor : (a b : Bool) (v : F) → pick field.zero (xor a b) v ≡ field.sum (pick field.zero a v) (pick field.zero b v)
  pick-xor false b v = sym (nil-add field L _)
  pick-xor true true v = sym (add_self v)
  pick-xor true false v = sym (add_zero v)

  pub pow-add : (x : F) (i j : ℕ) → power x (i + j) ≡ field.product (power x i) (power x j)
  pow-add x zero j = let e : zero + j ≡ j = omega arith in ap (power x) e ∙ sym (mul_comm field.one (power x j) ∙ mul_one (power x j))
  pow-add x (suc i) j =
      let e : suc i + j ≡ suc (i + j) = omega arith in
      ap (power x) e ∙ ap (field.product x) (pow-add x i j) ∙ sym (mul_assoc x (power x i) (power x j))

  pub pow-mul : (x y : F) (i : ℕ) → power (field.product x y) i ≡ field.product (power x i) (power y i)
  pow-mul x y zero = sym (mul_one field.one)
  pow-mul x y (suc i) =
      ap (field.product (field.product x y)) (pow-mul x y i)
      ∙ mul_assoc x y (field.product (power x i) (power y i))
      ∙ ap (field.product x) (sym (mul_assoc y (power x i) (power y i)) ∙ ap (λ v. field.product v (power y i)) (mul_comm y (power x i)) ∙ mul_assoc (power x i) y (power y i))
      ∙ sym (mul_assoc x (power x i) (field.product y (power y i)))

  pub pow-one : (i : ℕ) → power field.one i ≡ field.one
  pow-one zero = refl
  pow-one (suc i) = ap (field.product field.one) (pow-one i) ∙ mul_one field.one

  pow_swap : (x : F) (i j : ℕ) → power (power x i) j ≡ power (power x j) i
  pow_swap x zero j = pow-one j
  pow_swap x (suc i) j =
      pow-mul x (power x i) j ∙ ap (field.product (power x j)) (pow_swap x i j)

  pow-ne : (x : F) → x ≢ field.zero → (i : ℕ) → power x i ≢ field.zero
  pow-ne x n zero e = one_ne_zero e
  pow-ne x n (suc i) e = pow-ne x n i (no_zero_divisors field L (power x i) x (mul_comm (power x i) x ∙ e) n)

  value-zeros : (n : ℕ) (x : F) → value (replicate n false) x ≡ field.zero
  value-zeros zero x = refl
  value-zeros (suc n) x = add_comm _ _ ∙ add_zero _ ∙ value-zeros n x

  value-times_bit : (b : Bool) (g : List Bool) (x : F) → value (times_bit b g) x ≡ pick field.zero b (value g x)
  value-times_bit true [] x = refl
  value-times_bit false [] x = refl
  value-times_bit true (c ∷ g) x =
      ap₂ field.sum (ap (λ n. pick field.zero c (power x n)) (length-times_bit true g)) (value-times_bit true g x)
  value-times_bit false (c ∷ g) x =
      ap (field.sum field.zero) (value-times_bit false g x) ∙ add_zero field.zero

  -- g stands k places from the end
  value-added : (g w : List Bool) (k : ℕ) (x : F) → length w ≡ length g + k
      → value (added g w) x ≡ field.sum (field.product (value g x) (power x k)) (value w x)
  value-added [] w k x e =
      sym (ap (λ v. field.sum v (value w x)) (zero-mul field L (power x k)) ∙ nil-add field L (value w x))
  value-added (a ∷ g) [] k x e = absurd (omega arith)
  value-added (a ∷ g) (b ∷ w) k x e =
      let l : length w ≡ length g + k = omega arith in
      ap₂ field.sum
      (ap (λ n. pick field.zero (xor a b) (power x n)) (length-added g w)
      ∙ pick-xor a b (power x (length w))
      ∙ ap (λ v. field.sum v (pick field.zero b (power x (length w))))
      (ap (λ n. pick field.zero a (power x n)) l ∙ ap (pick field.zero a) (pow-add x (length g) k) ∙ sym (pick-mul a (power x (length g)) (power x k))))
      (value-added g w k x l)
      ∙ add_swap field L _ _ _ _
      ∙ ap (λ v. field.sum v (value (b ∷ w) x)) (sym (add-mul field L (pick field.zero a (power x (length g))) (value g x) (power x k)))

  -- the value of a product
  pub value-product : (q g : List Bool) (x : F) → 0 < length g → value (product q g) x ≡ field.product (value q x) (value g x)
  value-product [] g x h = value-zeros (length g - 1) x ∙ sym (zero-mul field L (value g x))
  value-product (b ∷ q) g x h =
      let l : length (false ∷ product q g) ≡ length (times_bit b g) + length q = omega (arith, length-product q g, length-times_bit b g) in
      value-added (times_bit b g) (false ∷ product q g) (length q) x l
      ∙ ap₂ field.sum
      (ap (λ v. field.product v (power x (length q))) (value-times_bit b g x)
      ∙ pick-mul b (value g x) (power x (length q))
      ∙ ap (pick field.zero b) (mul_comm (value g x) (power x (length q)))
      ∙ sym (pick-mul b (power x (length q)) (value g x)))
      (nil-add field L (value (product q g) x) ∙ value-product q g x h)
      ∙ sym (add-mul field L (pick field.zero b (power x (length q))) (value q x) (value g x))

  -- g's roots are roots of its multiples
  pub multiple-root : (g w : List Bool) (x : F) → 0 < length g → IsMultiple g w → value g x ≡ field.zero → value w x ≡ field.zero
  multiple-root g w x h m r =
      ap (λ v. value v x) (sym m.1) ∙ value-product m.0 g x h ∙ ap (field.product (value m.0 x)) r ∙ mul-zero field L (value m.0 x)

  -- ---- the places of a word's ones, each by its power of a
  abbrev pub locators : F → List Bool → List F
  locators a [] = []
  locators a (true ∷ w) = power a (length w) ∷ locators a w
  locators a (false ∷ w) = locators a w

  pub value-power_sum : (a : F) (w : List Bool) (j : ℕ)
      → value w (power a (suc j)) ≡ power_sum field L (locators a w) (λ x. x) j
  value-power_sum a [] j = refl
  value-power_sum a (false ∷ w) j = nil-add field L _ ∙ value-power_sum a w j
  value-power_sum a (true ∷ w) j = ap₂ field.sum (pow_swap a (suc j) (length w)) (value-power_sum a w j)

  pub locators-nonzero : (a : F) → a ≢ field.zero → (w : List Bool) → Each (λ x. x ≢ field.zero) (locators a w)
  locators-nonzero a n [] = tt
  locators-nonzero a n (true ∷ w) = (pow-ne a n (length w), locators-nonzero a n w)
  locators-nonzero a n (false ∷ w) = locators-nonzero a n w

  -- the powers of a below the bound differ
  abbrev pub PowersDiffer : F → ℕ → Type 0
  PowersDiffer a bound = (i j : ℕ) → i < j → j < bound → power a i ≢ power a j

  pub locators-apart : (a : F) (bound n : ℕ) → PowersDiffer a bound → n < bound → (w : List Bool) → length w ≤ n
      → Each (λ y. y ≢ power a n) (locators a w)
  locators-apart a bound n p hn [] h = tt
  locators-apart a bound n p hn (true ∷ w) h =
      (p (length w) n (omega arith) hn, locators-apart a bound n p hn w (omega arith))
  locators-apart a bound n p hn (false ∷ w) h = locators-apart a bound n p hn w (omega arith)

  pub locators-differ : (a : F) (bound : ℕ) → PowersDiffer a bound → (w : List Bool) → length w ≤ bound → AllDiffer (locators a w)
  locators-differ a bound p [] h = tt
  locators-differ a bound p (true ∷ w) h = (
    locators-apart a bound (length w) p (omega arith) w (omega arith),
    locators-differ a bound p w (omega arith),
  )
  locators-differ a bound p (false ∷ w) h = locators-differ a bound p w (omega arith)

  -- a word of few ones with many roots has none
  few-ones : (a : F) (bound r : ℕ) (w : List Bool) → a ≢ field.zero → PowersDiffer a bound → length w ≤ bound
      → ((j : ℕ) → j < r → value w (power a (suc j)) ≡ field.zero) → length (locators a w) ≤ r → locators a w ≡ []
  few-ones a bound r w n p h roots few =
      empty (locators a w) (locators-nonzero a n w)
      (coefficients-vanish field L (locators a w) (λ x. x) (locators-differ a bound p w h)
      (λ j hj. sym (value-power_sum a w j) ∙ roots j (omega arith)))
    where
      empty : (xs : List F) → Each (λ x. x ≢ field.zero) xs → Each (λ x. x ≡ field.zero) xs → xs ≡ []
      empty [] n z = refl
      empty (x ∷ xs) n z = absurd (n.0 z.0)

  -- the sum of two words
  abbrev pub difference : List Bool → List Bool → List Bool
  difference u v = added u v

  no-ones-same : (a : F) (u v : List Bool) → length u ≡ length v → locators a (added u v) ≡ [] → u ≡ v
  no-ones-same a [] [] e h = refl
  no-ones-same a [] (c ∷ v) e h = absurd (omega arith)
  no-ones-same a (b ∷ u) [] e h = absurd (omega arith)
  no-ones-same a (true ∷ u) (true ∷ v) e h = ap (λ x. true ∷ x) (no-ones-same a u v (omega arith) h)
  no-ones-same a (true ∷ u) (false ∷ v) e h = cc
  no-ones-same a (false ∷ u) (true ∷ v) e h = cc
  no-ones-same a (false ∷ u) (false ∷ v) e h = ap (λ x. false ∷ x) (no-ones-same a u v (omega arith) h)

  pub length-locators : (a : F) (u v : List Bool) → length u ≡ length v → length (locators a (added u v)) ≡ differences (length u) u v
  length-locators a [] [] e = refl
  length-locators a [] (c ∷ v) e = absurd (omega arith)
  length-locators a (b ∷ u) [] e = absurd (omega arith)
  length-locators a (true ∷ u) (true ∷ v) e = omega (arith, length-locators a u v (omega arith), distance-cons true true u v)
  length-locators a (true ∷ u) (false ∷ v) e = omega (arith, length-locators a u v (omega arith), distance-cons true false u v)
  length-locators a (false ∷ u) (true ∷ v) e = omega (arith, length-locators a u v (omega arith), distance-cons false true u v)
  length-locators a (false ∷ u) (false ∷ v) e = omega (arith, length-locators a u v (omega arith), distance-cons false false u v)

  pub value-sum : (u v : List Bool) (x : F) → length u ≡ length v → value (added u v) x ≡ field.sum (value u x) (value v x)
  value-sum u v x e =
      let l : length v ≡ length u + zero = omega arith in
      value-added u v zero x l ∙ ap (λ w. field.sum w (value v x)) (mul_one (value u x))

  -- the BCH bound
  pub far-apart : (a : F) (bound r : ℕ) (g u v : List Bool) → a ≢ field.zero → PowersDiffer a bound → 0 < length g
      → ((j : ℕ) → j < r → value g (power a (suc j)) ≡ field.zero)
      → IsMultiple g u → IsMultiple g v → length u ≡ length v → length v ≤ bound → u ≢ v → r < differences (length u) u v
  far-apart a bound r g u v n p hg roots mu mv e h ne =
      elim (cases_lt r (differences (length u) u v)) [
        | inl more ↦ more
        | inr few ↦ absurd (ne (no-ones-same a u v e
            (few-ones a bound r (added u v) n p (omega (arith, length-added u v))
            (λ j hj. value-sum u v (power a (suc j)) e
            ∙ ap₂ field.sum (multiple-root g u (power a (suc j)) hg mu (roots j hj)) (multiple-root g v (power a (suc j)) hg mv (roots j hj))
            ∙ add_zero field.zero)
            (omega (arith, length-locators a u v e)))))
      ]

  -- two words near each other are one
  pub close_same : (a : F) (bound r : ℕ) (g u v : List Bool) → a ≢ field.zero → PowersDiffer a bound → 0 < length g
      → ((j : ℕ) → j < r → value g (power a (suc j)) ≡ field.zero)
      → IsMultiple g u → IsMultiple g v → length u ≡ length v → length v ≤ bound → differences (length u) u v ≤ r → u ≡ v
  close_same a bound r g u v n p hg roots mu mv e h near =
      no-ones-same a u v e
      (few-ones a bound r (added u v) n p (omega (arith, length-added u v))
      (λ j hj. value-sum u v (power a (suc j)) e
      ∙ ap₂ field.sum (multiple-root g u (power a (suc j)) hg mu (roots j hj)) (multiple-root g v (power a (suc j)) hg mv (roots j hj))
      ∙ add_zero field.zero)
      (omega (arith, length-locators a u v e)))

  -- powers below the order differ
  pub differ-of-order : (a : F) (bound : ℕ) → a ≢ field.zero → ((i : ℕ) → 0 < i → i < bound → power a i ≢ field.one) → PowersDiffer a bound
  differ-of-order a bound n order i j hij hj e =
      let k : ℕ = j - i in
      let split : j ≡ i + k = omega arith in
      let p = power a i in
      let np : p ≢ field.zero = pow-ne a n i in
      let times : field.product p (power a k) ≡ p = sym (pow-add a i k) ∙ ap (power a) (sym split) ∙ sym e in
      order k (omega arith) (omega arith)
      (sym (mul_comm field.one (power a k) ∙ mul_one (power a k))
      ∙ ap (λ v. field.product v (power a k)) (sym (mul_inv p np) ∙ mul_comm p (field.inverse p))
      ∙ mul_assoc (field.inverse p) p (power a k)
      ∙ ap (field.product (field.inverse p)) times
      ∙ mul_comm (field.inverse p) p ∙ mul_inv p np)
