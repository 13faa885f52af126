-- What goes through a page, one part after the other.
use Rattle.std.proofs.Common.{◌≡◌, ℕ, ◌+◌, ◌<◌, List, [], ◌∷◌, ◌++◌, Option, Result, Ok, Err, length, take, drop, get_or, sym, ap, ◌∙◌, subst, append_assoc, take-append-drop}
use Rattle.std.proofs.KnownBytes.{Appends-trans}
use Rattle.std.specs.Io.KnownBytes.{Appends}
use Rattle.std.specs.List.{flat_map}
use Rattle.std.proofs.lemmas.List.{take_more, drop_more}
use Rattle.std.proofs.lemmas.List.Concat.{flat_map-append}
use Rattle.s2_mode.specs.Pieces.{AppendsPart}
use Rattle.s2_mode.proofs.Parts.{part_first, part_second}
use Rattle.s2_certfile.specs.Pages.{GoesThrough, PutsThrough}
use Rattle.s2_certfile.proofs.Flat.{flat_more}

-- ---- what goes through

module _ (a b c : Option (List ℕ)) (page mid : List ℕ) where
  pub through_trans : (last xs ys : List ℕ) → GoesThrough xs a b page mid → GoesThrough ys b c mid last → GoesThrough (xs ++ ys) a c page last
  through_trans last xs ys (front, e, p) (back, f, q) =
      let whole = sym (append_assoc page xs ys) ∙ ap (λ l. l ++ ys) e ∙ append_assoc front mid ys ∙ ap (λ l. front ++ l) f ∙ sym (append_assoc front back last) in
      (front ++ back, whole, Appends-trans a b c front back p q)

  -- the second part failed
  pub through_part : (xs ys : List ℕ) → GoesThrough xs a b page mid → AppendsPart (mid ++ ys) b c → AppendsPart (page ++ (xs ++ ys)) a c
  through_part xs ys (front, e, p) q =
      let whole = sym (append_assoc page xs ys) ∙ ap (λ l. l ++ ys) e ∙ append_assoc front mid ys in
      subst (λ l. AppendsPart l a c) (sym whole) (part_second a b c front (mid ++ ys) p q)

  -- the first part went through, and the second may have
  pub through_both : {T E : Type 0} (r : Result T E) (last xs ys : List ℕ) → GoesThrough xs a b page mid → PutsThrough ys b c mid last r → PutsThrough (xs ++ ys) a c page last r
  through_both (Ok x) last xs ys p q = through_trans last xs ys p q
  through_both (Err e) last xs ys p q = through_part xs ys p q

-- the first part failed
pub first_part : (a b : Option (List ℕ)) (page xs ys : List ℕ) → AppendsPart (page ++ xs) a b → AppendsPart (page ++ (xs ++ ys)) a b
first_part a b page xs ys p = subst (λ l. AppendsPart l a b) (append_assoc page xs ys) (part_first a b (page ++ xs) ys p)

-- a part between two others failed
pub between_part : (a b c : Option (List ℕ)) (page mid all xs ys zs : List ℕ) → all ≡ xs ++ (ys ++ zs) → GoesThrough xs a b page mid → AppendsPart (mid ++ ys) b c → AppendsPart (page ++ all) a c
between_part a b c page mid all xs ys zs is p q =
    subst (λ l. AppendsPart (page ++ l) a c) (sym is) (through_part a b c page mid xs (ys ++ zs) p (first_part b c mid ys zs q))

-- a byte of some bytes
module _ (bytes : List ℕ) (k byte : ℕ) (a b c : Option (List ℕ)) (page mid : List ℕ) (low : k < length bytes) (is : byte ≡ get_or bytes k 0) where
  pub byte_through : (last : List ℕ) → GoesThrough (take k bytes) a b page mid → GoesThrough (byte ∷ []) b c mid last → GoesThrough (take (k + 1) bytes) a c page last
  byte_through last p q =
      let more = ap (λ x. take k bytes ++ x ∷ []) is ∙ sym (take_more bytes k 0 low) in
      subst (λ l. GoesThrough l a c page last) more (through_trans a b c page mid last (take k bytes) (byte ∷ []) p q)

  pub byte_part : GoesThrough (take k bytes) a b page mid → AppendsPart (mid ++ byte ∷ []) b c → AppendsPart (page ++ bytes) a c
  byte_part p q =
      let rest = drop (k + 1) bytes in
      let split = sym (take-append-drop k bytes) ∙ ap (λ l. take k bytes ++ l) (drop_more bytes k 0 low ∙ ap (λ x. x ∷ rest) (sym is)) in
      between_part a b c page mid bytes (take k bytes) (byte ∷ []) rest split p q

-- the bytes of an element of a list
module _ {X : Type 0} (f : X → List ℕ) (xs : List X) (k : ℕ) (d x : X) (a b c : Option (List ℕ)) (page mid : List ℕ) (low : k < length xs) (is : x ≡ get_or xs k d) where
  pub entry_through : (last : List ℕ) → GoesThrough (flat_map f (take k xs)) a b page mid → GoesThrough (f x) b c mid last → GoesThrough (flat_map f (take (k + 1) xs)) a c page last
  entry_through last p q =
      let more = ap (λ y. flat_map f (take k xs) ++ f y) is ∙ sym (flat_more f xs k d low) in
      subst (λ l. GoesThrough l a c page last) more (through_trans a b c page mid last (flat_map f (take k xs)) (f x) p q)

  pub entry_part : GoesThrough (flat_map f (take k xs)) a b page mid → AppendsPart (mid ++ f x) b c → AppendsPart (page ++ flat_map f xs) a c
  entry_part p q =
      let rest = drop (k + 1) xs in
      let split = sym (take-append-drop k xs) ∙ ap (λ l. take k xs ++ l) (drop_more xs k d low ∙ ap (λ y. y ∷ rest) (sym is)) in
      let bytes = ap (flat_map f) split ∙ flat_map-append f (take k xs) (x ∷ rest) in
      between_part a b c page mid (flat_map f xs) (flat_map f (take k xs)) (f x) (flat_map f rest) bytes p q

-- ---- through a page that was empty, and then the page's rest

pub all_out : (a b c : Option (List ℕ)) (page page' bytes : List ℕ) → page ≡ [] → GoesThrough bytes a b page page' → Appends b c page' → Appends a c bytes
all_out a b c page page' bytes none (front, e, p) q =
    let whole = sym e ∙ ap (λ l. l ++ bytes) none in
    subst (Appends a c) whole (Appends-trans a b c front page' p q)

-- the rest failed
pub rest_part : (a b c : Option (List ℕ)) (page page' bytes : List ℕ) → page ≡ [] → GoesThrough bytes a b page page' → AppendsPart page' b c → AppendsPart bytes a c
rest_part a b c page page' bytes none (front, e, p) q =
    let whole = sym e ∙ ap (λ l. l ++ bytes) none in
    subst (λ l. AppendsPart l a c) whole (part_second a b c front page' p q)
