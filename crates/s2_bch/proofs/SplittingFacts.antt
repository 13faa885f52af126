-- Remainders by their values at the roots of a polynomial, and polynomials with as many roots as their degree.
use Rattle.std.specs.Prelude.{ℕ, zero, suc, ◌≡◌, ◌+◌, ◌-◌, ◌^◌, ◌<◌, ◌≤◌, refl, Bool, true, false, Option, Some, None, IfSome, is_some, List, [], ◌∷◌, ◌++◌, length, take, drop, set}
use Rattle.std.proofs.Common.{sym, ◌∙◌, ap, ap₂, subst, arith, get_or, add-one, drop-cons, drop_of_length-le, take_all, length-take-le, append-nil, pow-suc}
use Rattle.std.specs.List.{copy_within}
use Rattle.s2_field.specs.Operations.{Operations}
use Rattle.s2_field.specs.Laws.{FieldLaws}
use Rattle.s2_field.specs.Polynomials as P
use Rattle.s2_field.specs.Polynomials.{HasOrder, IsDegree}
use Rattle.s2_bch.specs.Sequences as S
use Rattle.s2_bch.specs.Splitting as splitting
use Rattle.s2_bch.specs.Splitting.{Each, AllDiffer}
use Rattle.s2_bch.proofs.LocatorTheory.{each_map₂, zero-add as nil-add, mul-zero, add-mul, mul_swap, equal_of_sum, rests, length-rests, rests-roots, monic-length}
use Rattle.s2_bch.proofs.TermLemmas.{eval_next, pow_swap}
use Rattle.s2_bch.proofs.ValueFacts.{pow-add, locators}

-- what is left in a row of n + 1 elements when they are moved on by one place and the first is replaced
pub moved_on : {X : Type 0} (old new : List X) (n : ℕ) (x : X) → length old ≡ suc n → new ≡ copy_within old 0 n 1 → set new 0 x ≡ x ∷ take n old
moved_on [] new n x h e = absurd (omega arith)
moved_on (c ∷ f) new n x h e =
    let none : drop (1 + n) (c ∷ f) ≡ [] = drop_of_length-le (c ∷ f) (omega arith) in
    let all : n - 0 ≡ n = omega arith in
    ap (λ u. set u 0 x)
    (e ∙ ap (λ k. (c ∷ take k (c ∷ f)) ++ drop (1 + k) (c ∷ f)) all ∙ ap (λ u. (c ∷ take n (c ∷ f)) ++ u) none)
    ∙ ap (λ u. x ∷ u) (append-nil (take n (c ∷ f)))

-- a polynomial of zeros has no degree
pub without_degree : {F : Type 0} (nil : F) (f : List F) (d : Option ℕ) → IfSome d (λ n. IsDegree nil n f)
    → ((i : ℕ) → get_or f i nil ≡ nil) → is_some d ≡ false
without_degree nil f None h zeros = refl
without_degree nil f (Some d) h zeros = absurd (h.top (zeros d))

module _ {F : Type 0} (field : Operations F) (L : FieldLaws field) where
  open L use {add_comm, add_assoc, add_zero, add_self, mul_comm, mul_assoc, mul_one, mul_add}

  abbrev power : F → ℕ → F
  power = P.pow field

  abbrev evaluate : List F → F → F
  evaluate = P.eval field

  pub eval_zeros : (f : List F) (y : F) → ((i : ℕ) → i < length f → get_or f i field.zero ≡ field.zero) → P.eval field f y ≡ field.zero
  eval_zeros [] y h = refl
  eval_zeros (c ∷ f) y h =
      ap₂ field.sum (h zero (omega arith)) (ap (field.product y) (eval_zeros f y (λ i hi. h (suc i) (omega arith))) ∙ mul-zero field L y)
      ∙ add_zero field.zero

  -- a term more
  pub eval_added : (f : List F) (i : ℕ) (v y : F) → i < length f
      → P.eval field (set f i (field.sum (get_or f i field.zero) v)) y ≡ field.sum (P.eval field f y) (field.product v (P.pow field y i))
  eval_added [] i v y h = absurd (omega arith)
  eval_added (c ∷ f) zero v y h =
      let rest = field.product y (evaluate f y) in
      add_assoc c v rest ∙ ap (field.sum c) (add_comm v rest) ∙ sym (add_assoc c rest v)
      ∙ ap (field.sum (field.sum c rest)) (sym (mul_one v))
  eval_added (c ∷ f) (suc i) v y h =
      let rest = field.product y (evaluate f y) in
      ap (λ u. field.sum c (field.product y u)) (eval_added f i v y (omega arith))
      ∙ ap (field.sum c)
      (mul_add y (evaluate f y) (field.product v (power y i)) ∙ ap (field.sum rest) (mul_swap field L y v (power y i)))
      ∙ sym (add_assoc c rest (field.product v (field.product y (power y i))))

  -- a step of the loop that adds a multiple
  pub multiple_step : (f g : List F) (i : ℕ) (start c y : F) → i < length f → i < length g
      → P.eval field f y ≡ field.sum start (field.product (P.eval field (take i g) y) c)
      → P.eval field (set f i (field.sum (get_or f i field.zero) (field.product (get_or g i field.zero) c))) y
      ≡ field.sum start (field.product (P.eval field (take (i + 1) g) y) c)
  multiple_step f g i start c y hf hg is =
      let q = get_or g i field.zero in
      let front = evaluate (take i g) y in
      eval_added f i (field.product q c) y hf
      ∙ ap₂ field.sum is (mul_assoc q c (power y i) ∙ ap (field.product q) (mul_comm c (power y i)) ∙ sym (mul_assoc q (power y i) c))
      ∙ add_assoc start (field.product front c) (field.product (field.product q (power y i)) c)
      ∙ ap (field.sum start) (sym (add-mul field L front (field.product q (power y i)) c)
      ∙ ap (λ v. field.product v c) (sym (eval_next field L g y i hg)))

  -- x times a remainder f: its coefficients moved on, and its top coefficient times x^(n + 1), whose value is v
  pub times_x_value : (f : List F) (n : ℕ) (v y : F) → length f ≡ suc n → v ≡ P.pow field y (suc n)
      → field.sum (P.eval field (field.zero ∷ take n f) y) (field.product v (get_or f n field.zero)) ≡ field.product y (P.eval field f y)
  times_x_value f n v y h e =
      let top = get_or f n field.zero in
      let front = evaluate (take n f) y in
      ap₂ field.sum (nil-add field L (field.product y front))
      (ap (λ u. field.product u top) e ∙ mul_assoc y (power y n) top ∙ ap (field.product y) (mul_comm (power y n) top))
      ∙ sym (mul_add y front (field.product top (power y n)))
      ∙ ap (field.product y) (sym (eval_next field L f y n (omega arith)) ∙ ap (λ u. evaluate u y) (take_all (n + 1) f (omega arith)))

  square_sum : (a b : F) → field.product (field.sum a b) (field.sum a b) ≡ field.sum (field.product a a) (field.product b b)
  square_sum a b =
      mul_add (field.sum a b) a b
      ∙ ap₂ field.sum (add-mul field L a b a) (add-mul field L a b b)
      ∙ add_assoc (field.product a a) (field.product b a) (field.sum (field.product a b) (field.product b b))
      ∙ ap (field.sum (field.product a a))
      (sym (add_assoc (field.product b a) (field.product a b) (field.product b b))
      ∙ ap (λ u. field.sum u (field.product b b)) (ap (field.sum (field.product b a)) (mul_comm a b) ∙ add_self (field.product b a))
      ∙ nil-add field L (field.product b b))

  -- a step of the loop that squares f
  pub square_step : (f : List F) (i : ℕ) (v y : F) → i < length f
      → v ≡ field.product (P.eval field (drop (i + 1) f) y) (P.eval field (drop (i + 1) f) y)
      → field.sum (field.product y (field.product y v)) (field.product (field.product (get_or f i field.zero) (get_or f i field.zero)) field.one)
      ≡ field.product (P.eval field (drop i f) y) (P.eval field (drop i f) y)
  square_step f i v y h e =
      let c = get_or f i field.zero in
      let rest = evaluate (drop (i + 1) f) y in
      let whole : evaluate (drop i f) y ≡ field.sum c (field.product y rest) =
      ap (λ u. evaluate u y) (drop-cons f i field.zero h) ∙ ap (λ n. field.sum c (field.product y (evaluate (drop n f) y))) (sym (add-one i)) in
      ap₂ field.sum
      (ap (field.product y) (ap (field.product y) e ∙ mul_swap field L y rest rest) ∙ sym (mul_assoc y rest (field.product y rest)))
      (mul_one (field.product c c))
      ∙ add_comm (field.product (field.product y rest) (field.product y rest)) (field.product c c)
      ∙ sym (ap₂ field.product whole whole ∙ square_sum c (field.product y rest))

  -- the next power of x
  pub next_power : (y v : F) (k : ℕ) → v ≡ P.pow field y (2 ^ k) → field.product v v ≡ P.pow field y (2 ^ (k + 1))
  next_power y v k e =
      let doubled : 2 ^ (k + 1) ≡ 2 ^ k + 2 ^ k = let s = ap (λ j. 2 ^ j) (add-one k) ∙ pow-suc 2 k in omega arith in
      ap₂ field.product e e ∙ sym (pow-add field L y (2 ^ k) (2 ^ k)) ∙ ap (power y) (sym doubled)

  -- ---- as many roots as coefficients

  cons-zeros : (c : F) (f : List F) → c ≡ field.zero → ((i : ℕ) → get_or f i field.zero ≡ field.zero)
      → (i : ℕ) → get_or (c ∷ f) i field.zero ≡ field.zero
  cons-zeros c f h rest zero = h
  cons-zeros c f h rest (suc i) = rest i

  -- all rests have the value zero at z only if all coefficients are zero
  rests-vanish : (z : F) (f : List F) → ((i : ℕ) → get_or (rests field L z f) i field.zero ≡ field.zero) → (i : ℕ) → get_or f i field.zero ≡ field.zero
  rests-vanish z [] h = λ i. refl
  rests-vanish z (c ∷ g) h =
      let zeros : (i : ℕ) → get_or g i field.zero ≡ field.zero = rests-vanish z g (λ i. h (suc i)) in
      cons-zeros c g
      (sym (ap (field.sum c) (ap (field.product z) (eval_zeros g z (λ i _. zeros i)) ∙ mul-zero field L z) ∙ add_zero c) ∙ h zero)
      zeros

  -- a polynomial with as many different roots as coefficients has only zeros
  roots-vanish : (f xs : List F) → length f ≤ length xs → AllDiffer xs → Each (λ x. evaluate f x ≡ field.zero) xs
      → (i : ℕ) → get_or f i field.zero ≡ field.zero
  roots-vanish [] xs h d r = λ i. refl
  roots-vanish (c ∷ g) [] h d r = absurd (omega arith)
  roots-vanish (c ∷ g) (z ∷ xs) h d r =
      rests-vanish z (c ∷ g)
      (cons-zeros (evaluate (c ∷ g) z) (rests field L z g) r.0
      (roots-vanish (rests field L z g) xs (omega (arith, length-rests field L z g)) d.1 (rests-roots field L z c g xs r.0 d.0 r.1)))

  -- if the polynomial splits, the remainder of x^q is x
  pub split_remainder : (q : ℕ) (low f xs : List F) → splitting.AreItsRoots field q low xs → length f ≡ length low
      → ((y : F) → splitting.IsRoot field low y → P.eval field f y ≡ field.sum (P.pow field y q) (field.product field.one (P.pow field y 1)))
      → (i : ℕ) → get_or f i field.zero ≡ field.zero
  split_remainder q low f xs R size is =
      roots-vanish f xs (let h = R.enough in omega arith) R.differ
      (each_map₂ (λ x. splitting.IsRoot field low x) (λ x. power x q ≡ x) (λ x. evaluate f x ≡ field.zero)
      (λ x root same. is x root ∙ ap₂ field.sum same (mul_comm field.one (power x 1) ∙ mul_one (power x 1) ∙ mul_one x) ∙ add_self x)
      xs R.roots R.elements)

  -- ---- the locator's polynomial, and the field's elements

  monic-eval : (d : ℕ) (f : List F) (x : F) → S.IsMonic field d f → evaluate f x ≡ field.sum (evaluate (take d f) x) (power x d)
  monic-eval d [] x m = absurd m
  monic-eval zero (c ∷ f) x m =
      ap₂ field.sum m.0 (ap (λ g. field.product x (evaluate g x)) m.1 ∙ mul-zero field L x) ∙ add_zero field.one ∙ sym (nil-add field L field.one)
  monic-eval (suc d) (c ∷ f) x m =
      ap (λ v. field.sum c (field.product x v)) (monic-eval d f x m)
      ∙ ap (field.sum c) (mul_add x (evaluate (take d f) x) (power x d))
      ∙ sym (add_assoc c (field.product x (evaluate (take d f) x)) (field.product x (power x d)))

  pub monic_root : (d : ℕ) (f : List F) (x : F) → S.IsMonic field d f → P.eval field f x ≡ field.zero → splitting.IsRoot field (take d f) x
  monic_root d f x m z =
      let h : length f ≡ suc d = monic-length field L d f m in
      let e : length (take d f) ≡ d = length-take-le d f (omega arith) in
      equal_of_sum field L (evaluate (take d f) x) (power x d) (sym (monic-eval d f x m) ∙ z) ∙ ap (power x) (sym e)

  -- a, of the order n, is in the field of n + 1 elements, and so are the places' powers of a
  pub order_fixes : (a : F) (n q : ℕ) → HasOrder field a n → q ≡ n + 1 → P.pow field a q ≡ a
  order_fixes a n q o e = ap (power a) (e ∙ add-one n) ∙ ap (field.product a) o.power ∙ mul_one a

  pub places_fixed : (a : F) (q : ℕ) → P.pow field a q ≡ a → (w : List Bool) → Each (λ x. P.pow field x q ≡ x) (locators field L a w)
  places_fixed a q e [] = tt
  places_fixed a q e (true ∷ w) =
      (pow_swap field L a (length w) q ∙ ap (λ u. power u (length w)) e, places_fixed a q e w)
  places_fixed a q e (false ∷ w) = places_fixed a q e w
