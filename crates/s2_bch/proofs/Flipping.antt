-- The decoder's theorem: a word within t places of a multiple is flipped into it.
use Rattle.std.specs.Prelude.{ℕ, suc, ◌≡◌, ◌≢◌, ◌+◌, ◌<◌, ◌≤◌, refl, Bool, true, false, List, [], ◌∷◌, ◌++◌, length, take}
use Rattle.std.proofs.Common.{sym, ◌∙◌, ap, ap₂, subst, arith, get_or, length-append, length-take-le, append_assoc}
use Rattle.s2_field.specs.Operations.{Operations}
use Rattle.s2_field.specs.Laws.{FieldLaws}
use Rattle.s2_field.specs.Polynomials as P
use Rattle.s2_bch.specs.Sequences as S
use Rattle.s2_bch.specs.Flips as flips
use Rattle.s2_bch.specs.Splitting as splitting
use Rattle.s2_bch.specs.Splitting.{Each, AllDiffer}
use Rattle.s2_bch.proofs.LocatorTheory.{each_map, dot-same, monic-length, degree-least, elements-are-roots, roots-are-elements}
use Rattle.s2_bits.specs.Bits.{xor, added, differences}
use Rattle.s2_bch.specs.Words.{IsMultiple}
use Rattle.s2_bch.proofs.WordFacts.{length-added}
use Rattle.s2_bch.proofs.ValueFacts.{value, value-sum, multiple-root, locators, locators-differ, locators-nonzero, locators-apart, value-power_sum, length-locators, PowersDiffer}
use Rattle.s2_bch.proofs.SplittingFacts.{monic_root, places_fixed}

module _ {F : Type 0} (field : Operations F) (L : FieldLaws field) where
  open L use {add_comm, add_assoc, add_zero, add_self, mul_comm, mul_assoc, mul_one, mul_add, mul_inv, one_ne_zero}

  abbrev Is : ℕ → ℕ → List F → List F → F → (ℕ → F) → Type 0
  Is = S.Shortest field

  abbrev power : F → ℕ → F
  power = P.pow field

  abbrev evaluate : List F → F → F
  evaluate = P.eval field

  abbrev places : F → List Bool → List F
  places = locators field L

  -- only the first n terms matter
  pub shortest-along : (n d : ℕ) (f b : List F) (delta : F) (s t : ℕ → F) → ((j : ℕ) → j < n → s j ≡ t j)
      → S.Shortest field n d f b delta s → S.Shortest field n d f b delta t
  shortest-along n d f b delta s t h H = record {
    monic = H.monic;
    fits = H.fits;
    annihilates = λ i hi.
        dot-same field L f _ _
        (λ j hj. sym (h (i + j) (omega (arith, monic-length field L d f H.monic))))
        ∙ H.annihilates i hi;
    least = λ e g m k. H.least e g m (λ i hi.
        dot-same field L g _ _ (λ j hj. h (i + j) (omega (arith, monic-length field L e g m)))
        ∙ k i hi);
    auxiliary_zero = λ i hi.
        dot-same field L b _ _ (λ j hj. sym (h (i + j) (omega (arith, H.auxiliary_length)))) ∙ H.auxiliary_zero i hi;
    auxiliary_top = λ i hi.
        dot-same field L b _ _ (λ j hj. sym (h (i + j) (omega (arith, H.auxiliary_length)))) ∙ H.auxiliary_top i hi;
    auxiliary_length = H.auxiliary_length;
    nonzero = H.nonzero;
  }

  -- what holds of each place's power holds of this place's
  at-one : (P : F → Type 0) (a : F) (pre w : List Bool) → Each P (places a (pre ++ true ∷ w)) → P (power a (length w))
  at-one P a [] w h = h.0
  at-one P a (true ∷ pre) w h = at-one P a pre w h.1
  at-one P a (false ∷ pre) w h = at-one P a pre w h

  -- no place's power is that of a place with no one
  at-zero : (a : F) (bound : ℕ) → PowersDiffer field L a bound → (pre w : List Bool) → length (pre ++ false ∷ w) ≤ bound
      → Each (λ x. x ≢ power a (length w)) (places a (pre ++ false ∷ w))
  at-zero a bound p [] w h = locators-apart field L a bound (length w) p (omega arith) w (omega arith)
  at-zero a bound p (true ∷ pre) w h = (
    (λ e. p (length w) (length (pre ++ false ∷ w)) (omega (arith, length-append pre (false ∷ w))) (omega arith) (sym e)),
    at-zero a bound p pre w (omega arith),
  )
  at-zero a bound p (false ∷ pre) w h = at-zero a bound p pre w (omega arith)

  module _ (a : F) (bound : ℕ) (p : PowersDiffer field L a bound) (f : List F) where
    -- the flipped places are where the words differ
    flipped : (pre r v w : List Bool) → length r ≡ length v → length (pre ++ added r v) ≤ bound
        → Each (λ x. evaluate f x ≡ field.zero) (places a (pre ++ added r v))
        → ((z : F) → evaluate f z ≡ field.zero → Each (λ x. x ≢ z) (places a (pre ++ added r v)) → ⊥)
        → flips.FlipsRoots field a f r w → w ≡ v
    flipped pre [] [] [] e h roots others k = refl
    flipped pre [] [] (x ∷ w) e h roots others k = absurd k
    flipped pre [] (c ∷ v) w e h roots others k = absurd (omega arith)
    flipped pre (b ∷ r) [] w e h roots others k = absurd (omega arith)
    flipped pre (b ∷ r) (c ∷ v) [] e h roots others k = absurd k
    flipped pre (b ∷ r) (c ∷ v) (x ∷ w) e h roots others k =
        let moved : pre ++ xor b c ∷ added r v ≡ (pre ++ xor b c ∷ []) ++ added r v =
        sym (append_assoc pre (xor b c ∷ []) (added r v)) in
        let same : length (added r v) ≡ length r = omega (arith, length-added r v) in
        ap₂ (λ y u. y ∷ u)
        (bit b c x (xor b c) refl h roots others same k.0 k.1)
        (flipped (pre ++ xor b c ∷ []) r v w (omega arith) (subst (λ u. length u ≤ bound) moved h)
        (subst (λ u. Each (λ y. evaluate f y ≡ field.zero) (places a u)) moved roots)
        (subst (λ u. (z : F) → evaluate f z ≡ field.zero → Each (λ y. y ≢ z) (places a u) → ⊥) moved others)
        k.2)
      where
        different : (b c : Bool) → true ≡ xor b c → xor true b ≡ c
        different true true e = sym e
        different true false e = refl
        different false true e = refl
        different false false e = e

        bit : (b c x y : Bool) → y ≡ xor b c → length (pre ++ y ∷ added r v) ≤ bound
            → Each (λ z. evaluate f z ≡ field.zero) (places a (pre ++ y ∷ added r v))
            → ((z : F) → evaluate f z ≡ field.zero → Each (λ x. x ≢ z) (places a (pre ++ y ∷ added r v)) → ⊥)
            → length (added r v) ≡ length r
            → (evaluate f (power a (length r)) ≡ field.zero → x ≡ xor true b)
            → (evaluate f (power a (length r)) ≢ field.zero → x ≡ b) → x ≡ c
        bit b c x true ey h roots others same at_root elsewhere =
            at_root (subst (λ n. evaluate f (power a n) ≡ field.zero) same (at-one (λ z. evaluate f z ≡ field.zero) a pre (added r v) roots))
            ∙ different b c ey
        bit b c x false ey h roots others same at_root elsewhere =
            elsewhere (λ root. others (power a (length r)) root
            (subst (λ n. Each (λ z. z ≢ power a n) (places a (pre ++ false ∷ added r v))) same
            (at-zero a bound p pre (added r v) h)))
            ∙ equal b c ey
          where
            equal : (b c : Bool) → false ≡ xor b c → b ≡ c
            equal true true e = refl
            equal true false e = sym e
            equal false true e = e
            equal false false e = refl

  -- v is a multiple of g within t places of r, and f is the shortest locator of r's syndromes
  module _ (a : F) (bound t d : ℕ) (g r v : List Bool) (S' f b : List F) (delta : F)
      (na : a ≢ field.zero) (p : PowersDiffer field L a bound) (hg : 0 < length g)
      (roots : (j : ℕ) → j < t + t → value field L g (power a (suc j)) ≡ field.zero)
      (mv : IsMultiple g v) (e : length r ≡ length v) (h : length v ≤ bound) (near : differences (length r) r v ≤ t)
      (syndromes : (j : ℕ) → j < t + t → get_or S' j field.zero ≡ value field L r (power a (suc j)))
      (H : S.Shortest field (t + t) d f b delta (S.sequence_of field.zero S')) where
    abbrev error : List Bool
    error = added r v

    abbrev xs : List F
    xs = places a error

    locates : S.Shortest field (t + t) d f b delta (S.power_sum field xs (λ x. x))
    locates =
        shortest-along (t + t) d f b delta _ _
        (λ j hj.
        syndromes j hj
        ∙ sym (value-sum field L r v (power a (suc j)) e
        ∙ ap (field.sum (value field L r (power a (suc j)))) (multiple-root field L g v (power a (suc j)) hg mv (roots j hj))
        ∙ add_zero _)
        ∙ value-power_sum field L a error j)
        H

    few : length xs + length xs ≤ t + t
    few = omega (arith, length-locators field L a r v e)

    apart : AllDiffer xs
    apart = locators-differ field L a bound p error (omega (arith, length-added r v))

    present : Each (λ x. x ≢ field.zero) xs
    present = locators-nonzero field L a na error

    are_roots : Each (λ x. evaluate f x ≡ field.zero) xs
    are_roots = elements-are-roots field L (t + t) d f b delta xs (λ x. x) locates few apart present

    least : d ≤ length xs
    least = degree-least field L (t + t) d f b delta xs (λ x. x) locates few apart present

    -- its degree is t at most
    pub degree_few : d ≤ t
    degree_few = omega (arith, least, few)

    -- it has as many roots in the field as its degree
    pub splits : (q : ℕ) → power a q ≡ a → (ys : List F) × splitting.AreItsRoots field q (take d f) ys
    splits q fixed = (
      xs,
      record {
        enough = omega (arith, least, length-take-le d f (omega (arith, monic-length field L d f H.monic)));
        differ = apart;
        roots = each_map (λ x. evaluate f x ≡ field.zero) (λ x. splitting.IsRoot field (take d f) x)
            (λ x z. monic_root field L d f x H.monic z) xs are_roots;
        elements = places_fixed field L a q fixed error;
      },
    )

    -- its roots are the places that differ
    pub decoded : (w : List Bool) → flips.FlipsRoots field a f r w → w ≡ v
    decoded w k =
        flipped a bound p f [] r v w e (omega (arith, length-added r v)) are_roots
        (roots-are-elements field L (t + t) d f b delta xs (λ x. x) locates few apart present)
        k
