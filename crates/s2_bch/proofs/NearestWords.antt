-- The nearest word of the code is the only one within t places.
use Rattle.std.specs.Prelude.{ℕ, zero, suc, ◌≡◌, ◌+◌, ◌≤◌, refl, nat_le, Bool, true, false, List, [], ◌∷◌, map, length, Option, Some, None}
use Rattle.std.specs.List.{find, All, Contains}
use Rattle.std.proofs.Common.{sym, ◌∙◌, ap, subst, arith, cond}
use Rattle.std.proofs.lemmas.Bool.{leb-true, le-leb, true≢false}
use Rattle.std.proofs.lemmas.List.{length-map, get_or-map}
use Rattle.std.proofs.lemmas.List.Elements.{All-nil, All-cons, All-head, All-tail, All-append, All-map, All-weaker, All-contains, Contains-append_left, Contains-append_right}
use Rattle.s2_bits.specs.Bits.{xor, differences, number}
use Rattle.s2_mode.specs.Mode.{Mode, IsMode, HasCodeSizes, kbch_of, k_of, t_of}
use Rattle.s2_bch.specs.Words.{product}
use Rattle.s2_bch.specs.Codes.{IsBchWord, IsWithin}
use Rattle.s2_bch.specs.Generators.{generator_of}
use Rattle.s2_bch.specs.Decoding.{all_lists, all_words, nearest}
use Rattle.s2_bch.proofs.WordFacts.{length-product}
use Rattle.s2_bch.proofs.GeneratorFacts.{generator_facts}
use Rattle.s2_bch.proofs.CodeFacts.{words_same}
use Rattle.s2_bch.proofs.Distances.{distance-cons}

-- ---- the first element that passes

module _ {X : Type 0} (p : X → Bool) where
  found-first : (x v : X) (xs : List X) (P : X → Type 0) (b : Bool) → p x ≡ b → P x → (find p xs ≡ Some v → P v × (p v ≡ true))
      → cond b (Some x) (find p xs) ≡ Some v → P v × (p v ≡ true)
  found-first x v xs P true is px later e =
      let same : x ≡ v = cc in
      (subst P same px, ap p (sym same) ∙ is)
  found-first x v xs P false is px later e = later e

  -- what is found passes, and is such as all elements are
  found : (xs : List X) (v : X) (P : X → Type 0) → All P xs → find p xs ≡ Some v → P v × (p v ≡ true)
  found [] v P all e = absurd cc
  found (x ∷ xs) v P all e = found-first x v xs P (p x) refl (All-head P x xs all) (found xs v P (All-tail P x xs all)) e

  none-first : (x : X) (xs : List X) (b : Bool) → p x ≡ b → (find p xs ≡ None → All (λ y. p y ≡ false) xs)
      → cond b (Some x) (find p xs) ≡ None → All (λ y. p y ≡ false) (x ∷ xs)
  none-first x xs true is later e = absurd cc
  none-first x xs false is later e = All-cons (λ y. p y ≡ false) x xs is (later e)

  -- where none is found, none passes
  none_pass : (xs : List X) → find p xs ≡ None → All (λ y. p y ≡ false) xs
  none_pass [] e = All-nil (λ y. p y ≡ false)
  none_pass (x ∷ xs) e = none-first x xs (p x) refl (none_pass xs) e

-- ---- all lists of n bits

Contains-map : {X Y : Type 0} (f : X → Y) (xs : List X) (x : X) → Contains xs x → Contains (map f xs) (f x)
Contains-map f xs x (k, within, is) = (k, omega (arith, length-map xs f), get_or-map f xs k x (f x) within ∙ ap f is)

has_length : (n : ℕ) → All (λ bits. length bits ≡ n) (all_lists n)
unfolding all_lists
has_length zero = All-cons (λ bits. length bits ≡ 0) [] [] refl (All-nil (λ bits. length bits ≡ 0))
has_length (suc n) =
    let longer = All-weaker (λ bits. length bits ≡ n) (λ bits. suc (length bits) ≡ suc n) (λ bits e. ap suc e) (all_lists n) (has_length n) in
    All-append (λ bits. length bits ≡ suc n) (map (λ bits. false ∷ bits) (all_lists n)) (map (λ bits. true ∷ bits) (all_lists n))
    (All-map (λ bits. length bits ≡ suc n) (λ bits. false ∷ bits) (all_lists n) longer)
    (All-map (λ bits. length bits ≡ suc n) (λ bits. true ∷ bits) (all_lists n) longer)

is_listed : (bits : List Bool) → Contains (all_lists (length bits)) bits
unfolding all_lists
is_listed [] = (0, omega arith, refl)
is_listed (false ∷ bits) =
    let rest = all_lists (length bits) in
    Contains-append_left (map (λ bits. false ∷ bits) rest) (map (λ bits. true ∷ bits) rest) (false ∷ bits)
    (Contains-map (λ bits. false ∷ bits) rest bits (is_listed bits))
is_listed (true ∷ bits) =
    let rest = all_lists (length bits) in
    Contains-append_right (map (λ bits. false ∷ bits) rest) (map (λ bits. true ∷ bits) rest) (true ∷ bits)
    (Contains-map (λ bits. true ∷ bits) rest bits (is_listed bits))

-- ---- all words of a code

module _ (m : Mode) (is : IsMode m) (sizes : HasCodeSizes m) where
  are_words : All (IsBchWord m) (all_words m)
  unfolding all_words
  are_words =
      let made = generator_facts m is sizes in
      let g = generator_of m in
      All-map (IsBchWord m) (λ quotient. product quotient g) (all_lists (kbch_of m))
      (All-weaker (λ quotient. length quotient ≡ kbch_of m) (λ quotient. IsBchWord m (product quotient g))
      (λ quotient e. record { size = omega (arith, length-product quotient g, ap length made.begins, made.size, e); multiple = (quotient, refl) })
      (all_lists (kbch_of m)) (has_length (kbch_of m)))

  is_word_listed : (v : List Bool) → IsBchWord m v → Contains (all_words m) v
  unfolding all_words
  is_word_listed v word =
      let made = generator_facts m is sizes in
      let g = generator_of m in
      let q = word.multiple.0 in
      let size : length q ≡ kbch_of m = omega (arith, length-product q g, ap length made.begins, made.size, word.size, ap length word.multiple.1) in
      let listed : Contains (all_lists (kbch_of m)) q = subst (λ n. Contains (all_lists n) q) size (is_listed q) in
      subst (Contains (map (λ quotient. product quotient g) (all_lists (kbch_of m)))) word.multiple.1
      (Contains-map (λ quotient. product quotient g) (all_lists (kbch_of m)) q listed)

-- ---- the nearest word

bit-triangle : (a b c : Bool) → number (xor b c) ≤ number (xor a b) + number (xor a c)
bit-triangle true true true = omega arith
bit-triangle true true false = omega arith
bit-triangle true false true = omega arith
bit-triangle true false false = omega arith
bit-triangle false true true = omega arith
bit-triangle false true false = omega arith
bit-triangle false false true = omega arith
bit-triangle false false false = omega arith

triangle : (r u v : List Bool) → length u ≡ length r → length v ≡ length r → differences (length u) u v ≤ differences (length r) r u + differences (length r) r v
triangle [] [] v e h = omega arith
triangle [] (b ∷ u) v e h = absurd (omega arith)
triangle (a ∷ r) [] v e h = absurd (omega arith)
triangle (a ∷ r) (b ∷ u) [] e h = absurd (omega arith)
triangle (a ∷ r) (b ∷ u) (c ∷ v) e h =
    omega (arith, bit-triangle a b c, triangle r u v (omega arith) (omega arith), distance-cons b c u v, distance-cons a b r u, distance-cons a c r v)

module _ (m : Mode) (is : IsMode m) (sizes : HasCodeSizes m) (r : List Bool) (whole : length r ≡ k_of m) where
  -- at most one word lies within t places
  one_within : (u v : List Bool) → IsWithin m r u → IsWithin m r v → u ≡ v
  one_within u v hu hv =
      words_same m is u v hu.word hv.word (omega (arith, triangle r u v (hu.word.size ∙ sym whole) (hv.word.size ∙ sym whole), hu.near, hv.near))

  near : List Bool → Bool
  near v = nat_le (differences (length r) r v) (t_of m)

  pub nearest_is_within : (v : List Bool) → nearest m r ≡ Some v → IsWithin m r v
  unfolding nearest near
  nearest_is_within v e =
      let h = found near (all_words m) v (IsBchWord m) (are_words m is sizes) e in
      record { word = h.0; near = leb-true (differences (length r) r v) (t_of m) h.1 }

  pub no_nearest : nearest m r ≡ None → (v : List Bool) → IsWithin m r v → ⊥
  unfolding nearest near
  no_nearest e v h =
      let far = All-contains (λ y. near y ≡ false) (all_words m) v (none_pass near (all_words m) e) (is_word_listed m is sizes v h.word) in
      true≢false (sym (le-leb (differences (length r) r v) (t_of m) h.near) ∙ far)

  answers : (v : List Bool) (o : Option (List Bool)) → nearest m r ≡ o → IsWithin m r v → o ≡ Some v
  answers v None e h = absurd (no_nearest e v h)
  answers v (Some u) e h = ap (λ w. Some w) (one_within u v (nearest_is_within u e) h)

  pub within_is_nearest : (v : List Bool) → IsWithin m r v → nearest m r ≡ Some v
  within_is_nearest v h = answers v (nearest m r) refl h

  missing : (o : Option (List Bool)) → nearest m r ≡ o → ((v : List Bool) → IsWithin m r v → ⊥) → o ≡ None
  missing None e far = refl
  missing (Some u) e far = absurd (far u (nearest_is_within u e))

  pub none_is_nearest : ((v : List Bool) → IsWithin m r v → ⊥) → nearest m r ≡ None
  none_is_nearest far = missing (nearest m r) refl far
