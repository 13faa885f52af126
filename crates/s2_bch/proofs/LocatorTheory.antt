-- Power sums over a field, and what short vanishing stretches of them say.
use Rattle.std.specs.Prelude.{ℕ, zero, suc, ◌≡◌, ◌≢◌, ◌+◌, ◌-◌, ◌<◌, ◌≤◌, refl, List, [], ◌∷◌, length}
use Rattle.std.proofs.Common.{sym, ◌∙◌, ap, ap₂, subst, arith, inl, inr}
use Rattle.std.proofs.lemmas.Bool.{cases_lt}
use Rattle.s2_field.specs.Operations.{Operations}
use Rattle.s2_field.specs.Polynomials as polynomials
use Rattle.s2_bch.specs.Sequences as sequences
use Rattle.s2_bch.specs.Splitting.{Each, AllDiffer}
use Rattle.s2_field.specs.Laws.{FieldLaws}

pub each_map : {X : Type 0} (P Q : X → Type 0) → ((x : X) → P x → Q x) → (xs : List X) → Each P xs → Each Q xs
each_map P Q f [] h = tt
each_map P Q f (x ∷ xs) h = (f x h.0, each_map P Q f xs h.1)

pub each_map₂ : {X : Type 0} (P Q R : X → Type 0) → ((x : X) → P x → Q x → R x) → (xs : List X) → Each P xs → Each Q xs → Each R xs
each_map₂ P Q R f [] h k = tt
each_map₂ P Q R f (x ∷ xs) h k = (f x h.0 k.0, each_map₂ P Q R f xs h.1 k.1)

module _ {F : Type 0} (field : Operations F) (L : FieldLaws field) where
  open L use {add_comm, add_assoc, add_zero, add_self, mul_comm, mul_assoc, mul_one, mul_add, mul_inv, one_ne_zero}

  abbrev pub pow : F → ℕ → F
  pow = polynomials.pow field

  -- the sum of c x * x^j over the elements x
  abbrev pub power_sum : List F → (F → F) → ℕ → F
  power_sum = sequences.power_sum field

  pub zero-mul : (a : F) → field.product field.zero a ≡ field.zero
  zero-mul a =
      mul_comm field.zero a ∙ ap (field.product a) (sym (add_self field.zero)) ∙ mul_add a field.zero field.zero ∙ add_self (field.product a field.zero)

  pub mul-zero : (a : F) → field.product a field.zero ≡ field.zero
  mul-zero a = mul_comm a field.zero ∙ zero-mul a

  pub zero-add : (a : F) → field.sum field.zero a ≡ a
  zero-add a = add_comm field.zero a ∙ add_zero a

  pub add-mul : (a b c : F) → field.product (field.sum a b) c ≡ field.sum (field.product a c) (field.product b c)
  add-mul a b c = mul_comm (field.sum a b) c ∙ mul_add c a b ∙ ap₂ field.sum (mul_comm c a) (mul_comm c b)

  pub add_swap : (a b c d : F) → field.sum (field.sum a b) (field.sum c d) ≡ field.sum (field.sum a c) (field.sum b d)
  add_swap a b c d =
      add_assoc a b (field.sum c d)
      ∙ ap (field.sum a) (sym (add_assoc b c d) ∙ ap (λ x. field.sum x d) (add_comm b c) ∙ add_assoc c b d)
      ∙ sym (add_assoc a c (field.sum b d))

  -- a sum is zero only between equals
  pub equal_of_sum : (a b : F) → field.sum a b ≡ field.zero → a ≡ b
  equal_of_sum a b h =
      sym (add_zero a) ∙ ap (field.sum a) (sym (add_self b)) ∙ sym (add_assoc a b b) ∙ ap (λ x. field.sum x b) h ∙ zero-add b

  -- a product is zero only where a factor is
  pub no_zero_divisors : (a b : F) → field.product a b ≡ field.zero → b ≢ field.zero → a ≡ field.zero
  no_zero_divisors a b h nb =
      sym (mul_one a) ∙ ap (field.product a) (sym (mul_inv b nb)) ∙ sym (mul_assoc a b (field.inverse b)) ∙ ap (λ x. field.product x (field.inverse b)) h ∙ zero-mul (field.inverse b)

  pub mul_swap : (a b c : F) → field.product a (field.product b c) ≡ field.product b (field.product a c)
  mul_swap a b c = sym (mul_assoc a b c) ∙ ap (λ x. field.product x c) (mul_comm a b) ∙ mul_assoc b a c

  -- each term times y + x
  power_sum-rescale : (x : F) (xs : List F) (c : F → F) (j : ℕ)
      → power_sum xs (λ y. field.product (c y) (field.sum y x)) j ≡ field.sum (power_sum xs c (suc j)) (field.product x (power_sum xs c j))
  power_sum-rescale x [] c j = sym (zero-add (field.product x field.zero) ∙ mul-zero x)
  power_sum-rescale x (y ∷ ys) c j =
      ap₂ field.sum
      (mul_assoc (c y) (field.sum y x) (pow y j)
      ∙ ap (field.product (c y)) (add-mul y x (pow y j))
      ∙ mul_add (c y) (field.product y (pow y j)) (field.product x (pow y j))
      ∙ ap (field.sum (field.product (c y) (field.product y (pow y j)))) (mul_swap (c y) x (pow y j)))
      (power_sum-rescale x ys c j)
      ∙ add_swap _ _ _ _
      ∙ ap (field.sum _) (sym (mul_add x (field.product (c y) (pow y j)) (power_sum ys c j)))

  pub power_sum-vanish : (xs : List F) (c : F → F) (j : ℕ) → Each (λ y. c y ≡ field.zero) xs → power_sum xs c j ≡ field.zero
  power_sum-vanish [] c j h = refl
  power_sum-vanish (x ∷ xs) c j h =
      ap₂ field.sum (ap (λ v. field.product v (pow x j)) h.0 ∙ zero-mul (pow x j)) (power_sum-vanish xs c j h.1) ∙ add_zero field.zero

  -- where as many power sums vanish as there are terms, each coefficient does
  pub coefficients-vanish : (xs : List F) (c : F → F) → AllDiffer xs
      → ((j : ℕ) → j < length xs → power_sum xs c j ≡ field.zero) → Each (λ x. c x ≡ field.zero) xs
  coefficients-vanish [] c d h = tt
  coefficients-vanish (x ∷ xs) c d h =
      let same : (j : ℕ) → j < suc (length xs) → field.product (c x) (pow x j) ≡ power_sum xs c j =
      λ j hj. equal_of_sum (field.product (c x) (pow x j)) (power_sum xs c j) (h j hj) in
      let rest : Each (λ y. field.product (c y) (field.sum y x) ≡ field.zero) xs =
      coefficients-vanish xs (λ y. field.product (c y) (field.sum y x)) d.1
      (λ j hj. power_sum-rescale x xs c j
      ∙ ap₂ field.sum (sym (same (suc j) (omega arith)))
      (ap (field.product x) (sym (same j (omega arith))) ∙ mul_swap x (c x) (pow x j))
      ∙ add_self (field.product (c x) (field.product x (pow x j)))) in
      let each : Each (λ y. c y ≡ field.zero) xs =
      each_map₂ (λ y. field.product (c y) (field.sum y x) ≡ field.zero) (λ y. y ≢ x) (λ y. c y ≡ field.zero)
      (λ y e n. no_zero_divisors (c y) (field.sum y x) e (λ z. n (equal_of_sum y x z))) xs rest d.0 in
      (sym (mul_one (c x)) ∙ same zero (omega arith) ∙ power_sum-vanish xs c zero each, each)

  -- ---- sequences, and their discrepancies under polynomials (the constant first)

  -- the sum of f's coefficients times the sequence's first terms
  abbrev pub dot : List F → (ℕ → F) → F
  dot = sequences.dot field

  -- the sequence that has dot f of each rest of s
  abbrev pub discrepancies : List F → (ℕ → F) → ℕ → F
  discrepancies = sequences.discrepancies field

  -- f at x
  abbrev pub eval : List F → F → F
  eval = polynomials.eval field

  pub dot-same : (f : List F) (s t : ℕ → F) → ((j : ℕ) → j < length f → s j ≡ t j) → dot f s ≡ dot f t
  dot-same [] s t h = refl
  dot-same (c ∷ f) s t h =
      ap₂ field.sum (ap (field.product c) (h zero (omega arith))) (dot-same f (λ j. s (suc j)) (λ j. t (suc j)) (λ j hj. h (suc j) (omega arith)))

  pub dot-nil : (f : List F) → dot f (λ _. field.zero) ≡ field.zero
  dot-nil [] = refl
  dot-nil (c ∷ f) = ap₂ field.sum (mul-zero c) (dot-nil f) ∙ add_zero field.zero

  pub dot-add : (f : List F) (s t : ℕ → F) → dot f (λ j. field.sum (s j) (t j)) ≡ field.sum (dot f s) (dot f t)
  dot-add [] s t = sym (add_zero field.zero)
  dot-add (c ∷ f) s t =
      ap₂ field.sum (mul_add c (s zero) (t zero)) (dot-add f (λ j. s (suc j)) (λ j. t (suc j))) ∙ add_swap _ _ _ _

  pub dot-scale : (f : List F) (a : F) (s : ℕ → F) → dot f (λ j. field.product a (s j)) ≡ field.product a (dot f s)
  dot-scale [] a s = sym (mul-zero a)
  dot-scale (c ∷ f) a s =
      ap₂ field.sum (mul_swap c a (s zero)) (dot-scale f a (λ j. s (suc j))) ∙ sym (mul_add a (field.product c (s zero)) (dot f (λ j. s (suc j))))

  -- two locators commute
  pub dot-dot : (f g : List F) (s : ℕ → ℕ → F)
      → dot f (λ i. dot g (λ j. s i j)) ≡ dot g (λ j. dot f (λ i. s i j))
  dot-dot [] g s = sym (dot-nil g)
  dot-dot (c ∷ f) g s =
      ap₂ field.sum (sym (dot-scale g c (s zero))) (dot-dot f g (λ i. s (suc i)))
      ∙ sym (dot-add g (λ j. field.product c (s zero j)) (λ j. dot f (λ i. s (suc i) j)))

  pub discrepancies-commute : (f g : List F) (s : ℕ → F) (i : ℕ) → discrepancies f (discrepancies g s) i ≡ discrepancies g (discrepancies f s) i
  discrepancies-commute f g s i =
      dot-dot f g (λ j k. s (i + j + k))
      ∙ dot-same g _ _ (λ k _. dot-same f _ _ (λ j _. let e : i + j + k ≡ i + k + j = omega arith in ap s e))

  dot-pow : (f : List F) (x : F) (i : ℕ) → dot f (λ j. pow x (i + j)) ≡ field.product (pow x i) (eval f x)
  dot-pow [] x i = sym (mul-zero (pow x i))
  dot-pow (c ∷ f) x i =
      let z : i + zero ≡ i = omega arith in
      ap₂ field.sum
      (ap (λ k. field.product c (pow x k)) z ∙ mul_comm c (pow x i))
      (dot-same f _ _ (λ j _. let e : i + suc j ≡ suc i + j = omega arith in ap (pow x) e)
      ∙ dot-pow f x (suc i) ∙ ap (λ v. field.product v (eval f x)) (mul_comm x (pow x i)) ∙ mul_assoc (pow x i) x (eval f x))
      ∙ sym (mul_add (pow x i) c (field.product x (eval f x)))

  -- a locator multiplies the coefficients of power sums by its values
  pub discrepancies-power_sum : (f : List F) (xs : List F) (c : F → F) (i : ℕ)
      → discrepancies f (power_sum xs c) i ≡ power_sum xs (λ y. field.product (c y) (eval f y)) i
  discrepancies-power_sum f [] c i = dot-nil f
  discrepancies-power_sum f (x ∷ xs) c i =
      dot-add f (λ j. field.product (c x) (pow x (i + j))) (λ j. power_sum xs c (i + j))
      ∙ ap₂ field.sum
      (dot-scale f (c x) (λ j. pow x (i + j)) ∙ ap (field.product (c x)) (dot-pow f x i ∙ mul_comm (pow x i) (eval f x))
      ∙ sym (mul_assoc (c x) (eval f x) (pow x i)))
      (discrepancies-power_sum f xs c i)

  -- ---- the shortest locator, as Massey

  -- f of length d + 1 ends in 1
  abbrev pub IsMonic : ℕ → List F → Type 0
  IsMonic = sequences.IsMonic field

  -- the discrepancies are zero as far as the first n terms tell; d is f's degree
  abbrev pub Annihilates : ℕ → ℕ → List F → (ℕ → F) → Type 0
  Annihilates = sequences.Annihilates field

  -- f is monic of degree d
  dot-monic : (d : ℕ) (f : List F) (s : ℕ → F) → IsMonic d f → ((j : ℕ) → j < d → s j ≡ field.zero) → dot f s ≡ s d
  dot-monic d [] s m h = absurd m
  dot-monic zero (c ∷ f) s m h =
      ap₂ field.sum (ap (λ v. field.product v (s zero)) m.0 ∙ mul_comm field.one (s zero) ∙ mul_one (s zero)) (ap (λ g. dot g (λ j. s (suc j))) m.1)
      ∙ add_zero (s zero)
  dot-monic (suc d) (c ∷ f) s m h =
      ap₂ field.sum (ap (field.product c) (h zero (omega arith)) ∙ mul-zero c)
      (dot-monic d f (λ j. s (suc j)) m (λ j hj. h (suc j) (omega arith)))
      ∙ zero-add (s (suc d))

  pub monic-length : (d : ℕ) (f : List F) → IsMonic d f → length f ≡ suc d
  monic-length d [] m = absurd m
  monic-length zero (c ∷ f) m = ap (λ g. suc (length g)) m.1
  monic-length (suc d) (c ∷ f) m = ap suc (monic-length d f m)

  -- a monic locator that annihilates one term more than f, which fails there, is long
  pub massey : (n d e : ℕ) (f g : List F) (s : ℕ → F) → IsMonic d f → IsMonic e g → d ≤ n
      → Annihilates n d f s → discrepancies f s (n - d) ≢ field.zero → Annihilates (suc n) e g s → n < d + e
  massey n d e f g s mf mg hd af nf ag = elim (cases_lt n (d + e)) [ inl h ↦ h | inr h ↦ absurd (clash h) ]
    where
      clash : d + e ≤ n → ⊥
      clash h =
          let k : ℕ = n - (d + e) in
          let top : k + e ≡ n - d = omega arith in
          let one_way : discrepancies g (discrepancies f s) k ≡ discrepancies f s (n - d) =
          dot-monic e g (λ j. discrepancies f s (k + j)) mg (λ j hj. af (k + j) (omega arith)) ∙ ap (discrepancies f s) top in
          let other_way : discrepancies f (discrepancies g s) k ≡ field.zero =
          dot-same f (λ j. discrepancies g s (k + j)) (λ _. field.zero)
          (λ j hj. let q : j < suc d = omega (arith, monic-length d f mf) in ag (k + j) (omega arith))
          ∙ dot-nil f in
          nf (sym one_way ∙ discrepancies-commute g f s k ∙ other_way)

  -- ---- one step of Berlekamp and Massey

  abbrev pub plus : List F → List F → List F
  plus = sequences.plus field

  abbrev pub scale : F → List F → List F
  scale = sequences.scale field

  abbrev pub shift : ℕ → List F → List F
  shift = sequences.shift field

  pub dot-plus : (f g : List F) (s : ℕ → F) → dot (plus f g) s ≡ field.sum (dot f s) (dot g s)
  dot-plus [] g s = sym (zero-add (dot g s))
  dot-plus (x ∷ f) [] s = sym (add_zero (dot (x ∷ f) s))
  dot-plus (x ∷ f) (y ∷ g) s =
      ap₂ field.sum (add-mul x y (s zero)) (dot-plus f g (λ j. s (suc j))) ∙ add_swap _ _ _ _

  pub dot-scaled : (a : F) (f : List F) (s : ℕ → F) → dot (scale a f) s ≡ field.product a (dot f s)
  dot-scaled a [] s = sym (mul-zero a)
  dot-scaled a (x ∷ f) s =
      ap₂ field.sum (mul_assoc a x (s zero)) (dot-scaled a f (λ j. s (suc j)))
      ∙ sym (mul_add a (field.product x (s zero)) (dot f (λ j. s (suc j))))

  pub dot-shift : (k : ℕ) (f : List F) (s : ℕ → F) → dot (shift k f) s ≡ dot f (λ j. s (k + j))
  dot-shift zero f s = dot-same f _ _ (λ j _. let e : j ≡ zero + j = omega arith in ap s e)
  dot-shift (suc k) f s =
      ap₂ field.sum (zero-mul (s zero)) (dot-shift k f (λ j. s (suc j))) ∙ zero-add _
      ∙ dot-same f _ _ (λ j _. let e : suc (k + j) ≡ suc k + j = omega arith in ap s e)

  monic-plus : (d : ℕ) (f g : List F) → IsMonic d f → length g ≤ d → IsMonic d (plus f g)
  monic-plus d [] g m h = absurd m
  monic-plus d (x ∷ f) [] m h = m
  monic-plus zero (x ∷ f) (y ∷ g) m h = absurd (omega arith)
  monic-plus (suc d) (x ∷ f) (y ∷ g) m h = monic-plus d f g m (omega arith)

  monic-shift : (k d : ℕ) (f : List F) → IsMonic d f → IsMonic (k + d) (shift k f)
  monic-shift zero d f m = let e : d ≡ zero + d = omega arith in subst (λ n. IsMonic n f) e m
  monic-shift (suc k) d f m =
      let e : suc (k + d) ≡ suc k + d = omega arith in subst (λ n. IsMonic n (shift (suc k) f)) e (monic-shift k d f m)

  pub length-scale : (a : F) (f : List F) → length (scale a f) ≡ length f
  length-scale a [] = refl
  length-scale a (x ∷ f) = ap suc (length-scale a f)

  pub length-shift : (k : ℕ) (f : List F) → length (shift k f) ≡ k + length f
  length-shift zero f = omega arith
  length-shift (suc k) f = let h = length-shift k f in omega arith

  -- f is the shortest monic locator of the first n terms, and b, the auxiliary polynomial, fails with delta one place before f's degree
  abbrev pub Shortest : ℕ → ℕ → List F → List F → F → (ℕ → F) → Type 0
  Shortest = sequences.Shortest field

  pub shortest-start : (s : ℕ → F) → Shortest zero zero (field.one ∷ []) [] field.one s
  shortest-start s = record {
    monic = (refl, refl);
    fits = omega arith;
    annihilates = λ i h. absurd (omega arith);
    least = λ e g _ _. omega arith;
    auxiliary_zero = λ i h. absurd (omega arith);
    auxiliary_top = λ i h. absurd (omega arith);
    auxiliary_length = omega arith;
    nonzero = one_ne_zero;
  }

  annihilates-less : (n e : ℕ) (g : List F) (s : ℕ → F) → Annihilates (suc n) e g s → Annihilates n e g s
  annihilates-less n e g s h = λ i hi. h i (omega arith)

  annihilates-more : (n d : ℕ) (f : List F) (s : ℕ → F) → d ≤ n → Annihilates n d f s → discrepancies f s (n - d) ≡ field.zero → Annihilates (suc n) d f s
  annihilates-more n d f s hd h e i hi =
      elim (cases_lt (i + d) n) [ inl l ↦ h i l | inr g ↦ (let q : i ≡ n - d = omega arith in ap (discrepancies f s) q ∙ e) ]

  -- no discrepancy: the same locator serves
  pub shortest-same : (n d : ℕ) (f b : List F) (delta : F) (s : ℕ → F) → Shortest n d f b delta s
      → discrepancies f s (n - d) ≡ field.zero → Shortest (suc n) d f b delta s
  shortest-same n d f b delta s S e = record {
    monic = S.monic;
    fits = let h = S.fits in omega arith;
    annihilates = annihilates-more n d f s S.fits S.annihilates e;
    least = λ e g m a. S.least e g m (annihilates-less n e g s a);
    auxiliary_zero = S.auxiliary_zero;
    auxiliary_top = S.auxiliary_top;
    auxiliary_length = let h = S.auxiliary_length in omega arith;
    nonzero = S.nonzero;
  }

  -- a discrepancy that the auxiliary polynomial mends at the same degree
  pub shortest-mend : (n d : ℕ) (f b : List F) (delta : F) (s : ℕ → F) → Shortest n d f b delta s
      → n < d + d
      → Shortest (suc n) d (plus f (scale (field.product (discrepancies f s (n - d)) (field.inverse delta)) (shift (d + d - suc n) b))) b delta s
  shortest-mend n d f b delta s S big =
      let x = discrepancies f s (n - d) in
      let a = field.product x (field.inverse delta) in
      let l : ℕ = d + d - suc n in
      let h1 : d ≤ n = S.fits in
      let h2 : length b + d ≤ suc n = S.auxiliary_length in
      let value : (i : ℕ) → discrepancies (plus f (scale a (shift l b))) s i ≡ field.sum (discrepancies f s i) (field.product a (discrepancies b s (i + l))) =
      λ i. dot-plus f (scale a (shift l b)) (λ j. s (i + j))
      ∙ ap (field.sum (discrepancies f s i))
      (dot-scaled a (shift l b) (λ j. s (i + j))
      ∙ ap (field.product a) (dot-shift l b (λ j. s (i + j))
      ∙ dot-same b _ _ (λ j _. let e : i + (l + j) ≡ i + l + j = omega arith in ap s e))) in
      record {
        monic = monic-plus d f _ S.monic (omega (arith, length-scale a (shift l b), length-shift l b));
        fits = omega arith;
        annihilates = λ i hi. value i ∙ elim (cases_lt (i + d) n) [
          | inl low ↦ ap₂ field.sum (S.annihilates i low) (ap (field.product a) (S.auxiliary_zero (i + l) (omega arith)) ∙ mul-zero a) ∙ add_zero field.zero
          | inr high ↦
              (let q : i ≡ n - d = omega arith in
              ap₂ field.sum (ap (discrepancies f s) q)
              (ap (field.product a) (S.auxiliary_top (i + l) (omega arith))
              ∙ mul_assoc x (field.inverse delta) delta ∙ ap (field.product x) (mul_comm (field.inverse delta) delta ∙ mul_inv delta S.nonzero) ∙ mul_one x)
              ∙ add_self x)
        ];
        least = λ e g m k. S.least e g m (annihilates-less n e g s k);
        auxiliary_zero = S.auxiliary_zero;
        auxiliary_top = S.auxiliary_top;
        auxiliary_length = omega arith;
        nonzero = S.nonzero;
      }

  -- a discrepancy that makes the locator longer
  pub shortest-grow : (n d : ℕ) (f b : List F) (delta : F) (s : ℕ → F) → Shortest n d f b delta s
      → discrepancies f s (n - d) ≢ field.zero → d + d ≤ n
      → Shortest (suc n) (suc n - d) (plus (shift (suc n - (d + d)) f) (scale (field.product (discrepancies f s (n - d)) (field.inverse delta)) b)) f (discrepancies f s (n - d)) s
  shortest-grow n d f b delta s S wrong small =
      let x = discrepancies f s (n - d) in
      let a = field.product x (field.inverse delta) in
      let l : ℕ = suc n - (d + d) in
      let h1 : d ≤ n = S.fits in
      let h2 : length b + d ≤ suc n = S.auxiliary_length in
      let degree : l + d ≡ suc n - d = omega arith in
      let value : (i : ℕ) → discrepancies (plus (shift l f) (scale a b)) s i ≡ field.sum (discrepancies f s (i + l)) (field.product a (discrepancies b s i)) =
      λ i. dot-plus (shift l f) (scale a b) (λ j. s (i + j))
      ∙ ap₂ field.sum
      (dot-shift l f (λ j. s (i + j)) ∙ dot-same f _ _ (λ j _. let e : i + (l + j) ≡ i + l + j = omega arith in ap s e))
      (dot-scaled a b (λ j. s (i + j))) in
      record {
        monic = monic-plus (suc n - d) (shift l f) _ (subst (λ k. IsMonic k (shift l f)) degree (monic-shift l d f S.monic))
            (omega (arith, length-scale a b));
        fits = omega arith;
        annihilates = λ i hi. value i ∙ elim (cases_lt (suc i) d) [
          | inl low ↦ ap₂ field.sum (S.annihilates (i + l) (omega arith)) (ap (field.product a) (S.auxiliary_zero i low) ∙ mul-zero a) ∙ add_zero field.zero
          | inr high ↦
              (let q : i + l ≡ n - d = omega arith in
              ap₂ field.sum (ap (discrepancies f s) q)
              (ap (field.product a) (S.auxiliary_top i (omega arith))
              ∙ mul_assoc x (field.inverse delta) delta ∙ ap (field.product x) (mul_comm (field.inverse delta) delta ∙ mul_inv delta S.nonzero) ∙ mul_one x)
              ∙ add_self x)
        ];
        least = λ e g m k. (let q : n < d + e = massey n d e f g s S.monic m h1 S.annihilates wrong k in omega arith);
        auxiliary_zero = λ i hi. S.annihilates i (omega arith);
        auxiliary_top = λ i hi. (let q : i ≡ n - d = omega arith in ap (discrepancies f s) q);
        auxiliary_length = omega (arith, monic-length d f S.monic);
        nonzero = wrong;
      }

  -- ---- what the shortest locator of few power sums is: its roots are the elements

  pub eval-plus : (f g : List F) (y : F) → eval (plus f g) y ≡ field.sum (eval f y) (eval g y)
  eval-plus [] g y = sym (zero-add (eval g y))
  eval-plus (a ∷ f) [] y = sym (add_zero (eval (a ∷ f) y))
  eval-plus (a ∷ f) (b ∷ g) y =
      ap (λ v. field.sum (field.sum a b) (field.product y v)) (eval-plus f g y) ∙ ap (field.sum (field.sum a b)) (mul_add y (eval f y) (eval g y)) ∙ add_swap _ _ _ _

  pub eval-scale : (a : F) (f : List F) (y : F) → eval (scale a f) y ≡ field.product a (eval f y)
  eval-scale a [] y = sym (mul-zero a)
  eval-scale a (x ∷ f) y =
      ap (λ v. field.sum (field.product a x) (field.product y v)) (eval-scale a f y) ∙ ap (field.sum (field.product a x)) (mul_swap y a (eval f y)) ∙ sym (mul_add a x (field.product y (eval f y)))

  -- the product of y + x over the elements x
  abbrev pub locator : List F → List F
  locator [] = field.one ∷ []
  locator (x ∷ xs) = plus (shift 1 (locator xs)) (scale x (locator xs))

  eval-locator : (x : F) (xs : List F) (y : F) → eval (locator (x ∷ xs)) y ≡ field.product (field.sum y x) (eval (locator xs) y)
  eval-locator x xs y =
      eval-plus (field.zero ∷ locator xs) (scale x (locator xs)) y
      ∙ ap₂ field.sum (zero-add (field.product y (eval (locator xs) y))) (eval-scale x (locator xs) y)
      ∙ sym (add-mul y x (eval (locator xs) y))

  locator-monic : (xs : List F) → IsMonic (length xs) (locator xs)
  locator-monic [] = (refl, refl)
  locator-monic (x ∷ xs) =
      monic-plus (suc (length xs)) (field.zero ∷ locator xs) (scale x (locator xs)) (locator-monic xs)
      (omega (arith, length-scale x (locator xs), monic-length (length xs) (locator xs) (locator-monic xs)))

  locator-roots : (xs : List F) → Each (λ y. eval (locator xs) y ≡ field.zero) xs
  locator-roots [] = tt
  locator-roots (x ∷ xs) = (
    eval-locator x xs x ∙ ap (λ v. field.product v (eval (locator xs) x)) (add_self x) ∙ zero-mul _,
    each_map (λ y. eval (locator xs) y ≡ field.zero) (λ y. eval (locator (x ∷ xs)) y ≡ field.zero)
        (λ y h. eval-locator x xs y ∙ ap (field.product (field.sum y x)) h ∙ mul-zero (field.sum y x)) xs (locator-roots xs),
  )

  annihilates-roots : (n d : ℕ) (f xs : List F) (c : F → F) → Each (λ y. eval f y ≡ field.zero) xs → Annihilates n d f (power_sum xs c)
  annihilates-roots n d f xs c h i hi =
      discrepancies-power_sum f xs c i
      ∙ power_sum-vanish xs (λ y. field.product (c y) (eval f y)) i
      (each_map (λ y. eval f y ≡ field.zero) (λ y. field.product (c y) (eval f y) ≡ field.zero) (λ y e. ap (field.product (c y)) e ∙ mul-zero (c y)) xs h)

  -- the values at z of f's rests: the quotient of c ∷ f by y + z
  abbrev pub rests : F → List F → List F
  rests z [] = []
  rests z (c ∷ f) = eval (c ∷ f) z ∷ rests z f

  pub length-rests : (z : F) (f : List F) → length (rests z f) ≡ length f
  length-rests z [] = refl
  length-rests z (c ∷ f) = ap suc (length-rests z f)

  rests-monic : (d : ℕ) (z : F) (f : List F) → IsMonic d f → IsMonic d (rests z f)
  rests-monic d z [] m = absurd m
  rests-monic zero z (c ∷ f) m = (
    ap₂ field.sum m.0 (ap (λ g. field.product z (eval g z)) m.1 ∙ mul-zero z) ∙ add_zero field.one,
    ap (rests z) m.1,
  )
  rests-monic (suc d) z (c ∷ f) m = rests-monic d z f m

  cancel-pair : (c p q r : F) → field.sum (field.sum p q) (field.sum c q) ≡ field.sum c p
  cancel-pair c p q r =
      ap (field.sum (field.sum p q)) (add_comm c q) ∙ add_assoc p q (field.sum q c)
      ∙ ap (field.sum p) (sym (add_assoc q q c) ∙ ap (λ v. field.sum v c) (add_self q) ∙ zero-add c) ∙ add_comm p c

  -- division by y + z
  pub eval-rests : (z c : F) (f : List F) (y : F)
      → eval (c ∷ f) y ≡ field.sum (field.product (field.sum y z) (eval (rests z f) y)) (eval (c ∷ f) z)
  eval-rests z c [] y =
      ap (field.sum c) (mul-zero y ∙ sym (mul-zero z)) ∙ sym (ap (λ v. field.sum v (field.sum c (field.product z field.zero))) (mul-zero (field.sum y z)) ∙ zero-add _)
  eval-rests z c (e ∷ f) y =
      let q = eval (rests z f) y in
      let r = eval (e ∷ f) z in
      ap (λ v. field.sum c (field.product y v)) (eval-rests z e f y)
      ∙ ap (field.sum c)
      (mul_add y (field.product (field.sum y z) q) r ∙ ap (λ v. field.sum v (field.product y r)) (mul_swap y (field.sum y z) q) ∙ add_comm _ _)
      ∙ sym
      (ap (λ v. field.sum v (field.sum c (field.product z r)))
      (mul_add (field.sum y z) r (field.product y q) ∙ ap (λ v. field.sum v (field.product (field.sum y z) (field.product y q))) (add-mul y z r)
      ∙ add_assoc (field.product y r) (field.product z r) (field.product (field.sum y z) (field.product y q))
      ∙ ap (field.sum (field.product y r)) (add_comm (field.product z r) (field.product (field.sum y z) (field.product y q)))
      ∙ sym (add_assoc (field.product y r) (field.product (field.sum y z) (field.product y q)) (field.product z r)))
      ∙ cancel-pair c (field.sum (field.product y r) (field.product (field.sum y z) (field.product y q))) (field.product z r) field.zero)

  -- the other roots of a ∷ g are roots of its quotient by y + z, where z is a root
  pub rests-roots : (z a : F) (g xs : List F) → eval (a ∷ g) z ≡ field.zero → Each (λ x. x ≢ z) xs → Each (λ x. eval (a ∷ g) x ≡ field.zero) xs
      → Each (λ x. eval (rests z g) x ≡ field.zero) xs
  rests-roots z a g xs e others roots =
      each_map₂ (λ x. eval (a ∷ g) x ≡ field.zero) (λ x. x ≢ z) (λ x. eval (rests z g) x ≡ field.zero)
      (λ x r ne. no_zero_divisors (eval (rests z g) x) (field.sum x z)
      (mul_comm (eval (rests z g) x) (field.sum x z)
      ∙ sym (add_zero (field.product (field.sum x z) (eval (rests z g) x)))
      ∙ ap (field.sum (field.product (field.sum x z) (eval (rests z g) x))) (sym e)
      ∙ sym (eval-rests z a g x) ∙ r)
      (λ w. ne (equal_of_sum x z w)))
      xs roots others

  module _ (n d : ℕ) (f b : List F) (delta : F) (xs : List F) (c : F → F)
      (S : Shortest n d f b delta (power_sum xs c)) (enough : length xs + length xs ≤ n)
      (differ : AllDiffer xs) (present : Each (λ x. c x ≢ field.zero) xs) where
    pub degree-least : d ≤ length xs
    degree-least = S.least (length xs) (locator xs) (locator-monic xs) (annihilates-roots n (length xs) (locator xs) xs c (locator-roots xs))

    -- each element is a root
    pub elements-are-roots : Each (λ x. eval f x ≡ field.zero) xs
    elements-are-roots =
        let products : Each (λ x. field.product (c x) (eval f x) ≡ field.zero) xs =
        coefficients-vanish xs (λ x. field.product (c x) (eval f x)) differ
        (λ j hj. sym (discrepancies-power_sum f xs c j) ∙ S.annihilates j (omega (arith, degree-least))) in
        each_map₂ (λ x. field.product (c x) (eval f x) ≡ field.zero) (λ x. c x ≢ field.zero) (λ x. eval f x ≡ field.zero)
        (λ x e p. no_zero_divisors (eval f x) (c x) (mul_comm (eval f x) (c x) ∙ e) p) xs products present

    -- no other is
    pub roots-are-elements : (z : F) → eval f z ≡ field.zero → Each (λ x. x ≢ z) xs → ⊥
    roots-are-elements z e others = go d f S.monic e elements-are-roots S.least
      where
        go : (k : ℕ) (g : List F) → IsMonic k g → eval g z ≡ field.zero → Each (λ x. eval g x ≡ field.zero) xs
            → ((i : ℕ) (h : List F) → IsMonic i h → Annihilates n i h (power_sum xs c) → k ≤ i) → ⊥
        go k [] m e roots least = absurd m
        go zero (a ∷ g) m e roots least =
            one_ne_zero (sym (ap₂ field.sum m.0 (ap (λ w. field.product z (eval w z)) m.1 ∙ mul-zero z) ∙ add_zero field.one) ∙ e)
        go (suc k) (a ∷ g) m e roots least =
            let quotient : Each (λ x. eval (rests z g) x ≡ field.zero) xs = rests-roots z a g xs e others roots in
            let short : suc k ≤ k = least k (rests z g) (rests-monic k z g m) (annihilates-roots n k (rests z g) xs c quotient) in
            absurd (omega arith)
