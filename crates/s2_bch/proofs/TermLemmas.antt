-- The terms of a polynomial, summed and moved on to the next power.
use Rattle.std.specs.Prelude.{ℕ, zero, suc, ◌≡◌, ◌+◌, ◌*◌, ◌<◌, List, [], ◌∷◌, ◌++◌, length, take}
use Rattle.std.proofs.Common.{sym, ◌∙◌, ap, arith, get_or, length-take}
use Rattle.std.proofs.lemmas.List.{take_more}
use Rattle.s2_field.specs.Operations.{Operations}
use Rattle.s2_field.specs.Laws.{FieldLaws}
use Rattle.s2_field.specs.Polynomials as P
use Rattle.s2_bch.specs.Terms as T
use Rattle.s2_bch.proofs.LocatorTheory.{zero-add as nil-add, mul-zero}
use Rattle.s2_bch.proofs.ValueFacts.{pow-add, pow-mul, pow-one}

module _ {F : Type 0} (field : Operations F) (L : FieldLaws field) where
  open L use {add_comm, add_assoc, add_zero, mul_comm, mul_assoc, mul_one, mul_add}

  abbrev power : F → ℕ → F
  power = P.pow field

  abbrev evaluate : List F → F → F
  evaluate = P.eval field

  -- two powers are one
  pub two_powers : (a v : F) (i j k : ℕ) → i + j ≡ k → field.product (P.pow field a j) (field.product (P.pow field a i) v) ≡ field.product v (P.pow field a k)
  two_powers a v i j k e =
      sym (mul_assoc (power a j) (power a i) v)
      ∙ ap (λ x. field.product x v) (mul_comm (power a j) (power a i) ∙ sym (pow-add field L a i j) ∙ ap (power a) e)
      ∙ mul_comm (power a k) v

  eval-more : (f : List F) (c x : F) → evaluate (f ++ c ∷ []) x ≡ field.sum (evaluate f x) (field.product c (power x (length f)))
  eval-more [] c x =
      ap (field.sum c) (mul-zero field L x) ∙ add_zero c ∙ sym (mul_one c) ∙ sym (nil-add field L (field.product c field.one))
  eval-more (d ∷ f) c x =
      ap (λ v. field.sum d (field.product x v)) (eval-more f c x)
      ∙ ap (field.sum d)
      (mul_add x (evaluate f x) (field.product c (power x (length f)))
      ∙ ap (field.sum (field.product x (evaluate f x)))
      (sym (mul_assoc x c (power x (length f))) ∙ ap (λ v. field.product v (power x (length f))) (mul_comm x c) ∙ mul_assoc c x (power x (length f))))
      ∙ sym (add_assoc d (field.product x (evaluate f x)) (field.product c (field.product x (power x (length f)))))

  -- the sum of the first j + 1 terms
  pub eval_next : (f : List F) (x : F) (j : ℕ) → j < length f
      → P.eval field (take (j + 1) f) x
      ≡ field.sum (P.eval field (take j f) x) (field.product (get_or f j field.zero) (P.pow field x j))
  eval_next f x j h =
      let l : length (take j f) ≡ j = omega (arith, length-take {A = F}) in
      ap (λ u. evaluate u x) (take_more f j field.zero h)
      ∙ eval-more (take j f) (get_or f j field.zero) x
      ∙ ap (λ n. field.sum (evaluate (take j f) x) (field.product (get_or f j field.zero) (power x n))) l

  -- a term moved on
  pub moved_term : (a c x : F) (j : ℕ)
      → field.product (P.pow field a j) (field.product c (P.pow field x j)) ≡ field.product c (P.pow field (field.product a x) j)
  moved_term a c x j =
      sym (mul_assoc (power a j) c (power x j))
      ∙ ap (λ v. field.product v (power x j)) (mul_comm (power a j) c)
      ∙ mul_assoc c (power a j) (power x j)
      ∙ ap (field.product c) (sym (pow-mul field L a x j))

  -- exponents of exponents change places
  pub pow_swap : (x : F) (j k : ℕ) → P.pow field (P.pow field x j) k ≡ P.pow field (P.pow field x k) j
  pow_swap x zero k = pow-one field L k
  pow_swap x (suc j) k = pow-mul field L x (power x j) k ∙ ap (field.product (power x k)) (pow_swap x j k)

  -- and are multiplied
  pub pow_times : (x : F) (j k : ℕ) → P.pow field (P.pow field x j) k ≡ P.pow field x (j * k)
  pow_times x j zero = let e : 0 ≡ j * 0 = omega arith in ap (power x) e
  pow_times x j (suc k) =
      let e : j + j * k ≡ j * suc k = omega arith in
      ap (field.product (power x j)) (pow_times x j k) ∙ sym (pow-add field L x j (j * k)) ∙ ap (power x) e

  -- one power more at the end
  pub pow_last : (x : F) (k : ℕ) → field.product (P.pow field x k) x ≡ P.pow field x (suc k)
  pow_last x k = mul_comm (power x k) x

  -- the lanes' elements named otherwise
  pub terms_along : (f : List F) (x y : ℕ → F) (terms : List F) → ((l : ℕ) → l < 16 → x l ≡ y l)
      → T.AreTerms field f x terms → T.AreTerms field f y terms
  terms_along f x y terms same A = record {
    each = λ j l hj hl. A.each j l hj hl ∙ ap (λ v. field.product (get_or f j field.zero) (power v j)) (same l hl);
  }
