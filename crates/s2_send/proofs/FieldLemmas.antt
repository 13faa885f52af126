-- Cuts of a stream that is put together from its fields.
use Rattle.std.proofs.Common.{◌≡◌, ℕ, suc, ◌+◌, ◌-◌, ◌*◌, ◌/◌, ◌<◌, ◌≤◌, List, [], ◌∷◌, ◌++◌, All, Bool, length, drop, refl, sym, ap, subst, ◌∙◌, append_assoc, append-nil, length-append, arith}
use Rattle.std.proofs.lemmas.List.{take_at, drop_at, take_all}
use Rattle.std.proofs.lemmas.List.Concat.{flat_map-append}
use Rattle.std.proofs.lemmas.List.Elements.{All-head, All-tail}
use Rattle.std.proofs.lemmas.Nat.{div-mul-add}
use Rattle.s2_link.specs.Link.{Link}
use Rattle.s2_send.specs.Frames.{IsCodewordFor, IsUnitOf}
use Rattle.s2_send.specs.Sinks.{Taking, TakesCodewords}
use Rattle.s2_send.specs.Transmitter.{Transmitter}
use Rattle.s2_bbframe.specs.DataStream.{cuts, full_fields, fields_of, header_at}
use Rattle.s2_send.specs.Sending.{joined, is_due, AreCodewords, AreUnits}

pub joined-push : (ls : List (List ℕ)) (l : List ℕ) → joined (ls ++ l ∷ []) ≡ joined ls ++ l
joined-push ls l = flat_map-append (λ x. x) ls (l ∷ []) ∙ ap (λ k. joined ls ++ k) (append-nil l)

-- the units so far, and one more
pub AreUnits-push : (t : Transmitter) (number at : ℕ) (fields units : List (List ℕ)) (field unit : List ℕ) → AreUnits t number at fields units
    → IsUnitOf t.link (is_due t.dummy_every (number + length fields)) (header_at t.link.setup.roll_off (at + length (joined fields)) field) field unit
    → AreUnits t number at (fields ++ field ∷ []) (units ++ unit ∷ [])
AreUnits-push t number at [] [] field unit h k =
    let e : at + 0 ≡ at = omega arith in
    let f : number + 0 ≡ number = omega arith in (
      subst (λ n. IsUnitOf t.link (is_due t.dummy_every number) (header_at t.link.setup.roll_off n field) field unit) e
          (subst (λ n. IsUnitOf t.link (is_due t.dummy_every n) (header_at t.link.setup.roll_off (at + 0) field) field unit) f k),
      tt,
    )
AreUnits-push t number at [] (g ∷ gs) field unit h k = absurd h
AreUnits-push t number at (f ∷ fs) [] field unit h k = absurd h
AreUnits-push t number at (f ∷ fs) (g ∷ gs) field unit h k =
    let e : at + length (f ++ joined fs) ≡ (at + length f) + length (joined fs) = omega (arith, length-append f (joined fs)) in
    let n : number + suc (length fs) ≡ (number + 1) + length fs = omega arith in (
      h.0,
      AreUnits-push t (number + 1) (at + length f) fs gs field unit h.1
          (subst (λ m. IsUnitOf t.link (is_due t.dummy_every ((number + 1) + length fs)) (header_at t.link.setup.roll_off m field) field unit) e
          (subst (λ m. IsUnitOf t.link (is_due t.dummy_every m) (header_at t.link.setup.roll_off (at + length (f ++ joined fs)) field) field unit) n k)),
    )

-- the codewords so far, and one more
pub AreCodewords-push : (link : Link) (at : ℕ) (fields : List (List ℕ)) (codewords : List (List Bool)) (field : List ℕ) (codeword : List Bool) → AreCodewords link at fields codewords
    → IsCodewordFor link.setup.mode link.rows (header_at link.setup.roll_off (at + length (joined fields)) field) field codeword
    → AreCodewords link at (fields ++ field ∷ []) (codewords ++ codeword ∷ [])
AreCodewords-push link at [] [] field codeword h k =
    let e : at + 0 ≡ at = omega arith in
    (subst (λ n. IsCodewordFor link.setup.mode link.rows (header_at link.setup.roll_off n field) field codeword) e k, tt)
AreCodewords-push link at [] (c ∷ cs) field codeword h k = absurd h
AreCodewords-push link at (f ∷ fs) [] field codeword h k = absurd h
AreCodewords-push link at (f ∷ fs) (c ∷ cs) field codeword h k =
    let e : at + length (f ++ joined fs) ≡ (at + length f) + length (joined fs) = omega (arith, length-append f (joined fs)) in (
      h.0,
      AreCodewords-push link (at + length f) fs cs field codeword h.1
          (subst (λ n. IsCodewordFor link.setup.mode link.rows (header_at link.setup.roll_off n field) field codeword) e k),
    )

-- the last one of them
pub AreUnits-last : (t : Transmitter) (number at : ℕ) (fields units : List (List ℕ)) (field unit : List ℕ) → AreUnits t number at fields units
    → AreUnits t number at (fields ++ field ∷ []) (units ++ unit ∷ [])
    → IsUnitOf t.link (is_due t.dummy_every (number + length fields)) (header_at t.link.setup.roll_off (at + length (joined fields)) field) field unit
AreUnits-last t number at [] [] field unit h k =
    let e : at ≡ at + 0 = omega arith in
    let f : number ≡ number + 0 = omega arith in
    subst (λ n. IsUnitOf t.link (is_due t.dummy_every n) (header_at t.link.setup.roll_off (at + 0) field) field unit) f
    (subst (λ n. IsUnitOf t.link (is_due t.dummy_every number) (header_at t.link.setup.roll_off n field) field unit) e k.0)
AreUnits-last t number at [] (g ∷ gs) field unit h k = absurd h
AreUnits-last t number at (f ∷ fs) [] field unit h k = absurd h
AreUnits-last t number at (f ∷ fs) (g ∷ gs) field unit h k =
    let e : (at + length f) + length (joined fs) ≡ at + length (f ++ joined fs) = omega (arith, length-append f (joined fs)) in
    let n : (number + 1) + length fs ≡ number + suc (length fs) = omega arith in
    subst (λ m. IsUnitOf t.link (is_due t.dummy_every m) (header_at t.link.setup.roll_off (at + length (f ++ joined fs)) field) field unit) n
    (subst (λ m. IsUnitOf t.link (is_due t.dummy_every ((number + 1) + length fs)) (header_at t.link.setup.roll_off m field) field unit) e
    (AreUnits-last t (number + 1) (at + length f) fs gs field unit h.1 k.1))

pub AreCodewords-last : (link : Link) (at : ℕ) (fields : List (List ℕ)) (codewords : List (List Bool)) (field : List ℕ) (codeword : List Bool) → AreCodewords link at fields codewords
    → AreCodewords link at (fields ++ field ∷ []) (codewords ++ codeword ∷ [])
    → IsCodewordFor link.setup.mode link.rows (header_at link.setup.roll_off (at + length (joined fields)) field) field codeword
AreCodewords-last link at [] [] field codeword h k =
    let e : at ≡ at + 0 = omega arith in
    subst (λ n. IsCodewordFor link.setup.mode link.rows (header_at link.setup.roll_off n field) field codeword) e k.0
AreCodewords-last link at [] (c ∷ cs) field codeword h k = absurd h
AreCodewords-last link at (f ∷ fs) [] field codeword h k = absurd h
AreCodewords-last link at (f ∷ fs) (c ∷ cs) field codeword h k =
    let e : (at + length f) + length (joined fs) ≡ at + length (f ++ joined fs) = omega (arith, length-append f (joined fs)) in
    subst (λ n. IsCodewordFor link.setup.mode link.rows (header_at link.setup.roll_off n field) field codeword) e
    (AreCodewords-last link (at + length f) fs cs field codeword h.1 k.1)

-- a sink that took some codewords, and one more
pub TakesCodewords-push : {S : Type 0} (takes : Taking S) (old mid new : S) (codewords : List (List Bool)) (codeword : List Bool)
    → TakesCodewords takes old mid codewords → takes mid new codeword → TakesCodewords takes old new (codewords ++ codeword ∷ [])
TakesCodewords-push takes old mid new [] codeword h k = (new, subst (λ s. takes s new codeword) h k, refl)
TakesCodewords-push takes old mid new (first ∷ later) codeword h k = (h.0, h.1, TakesCodewords-push takes h.0 mid new later codeword h.2 k)

module _ (size : ℕ) where
  abbrev pub IsFull : List ℕ → Type 0
  IsFull f = length f ≡ size

  pub length_joined : (fs : List (List ℕ)) → All IsFull fs → length (joined fs) ≡ length fs * size
  length_joined [] h = sym (omega arith)
  length_joined (f ∷ fs) h =
      let one : length f ≡ size = All-head IsFull f fs h in
      let more = length_joined fs (All-tail IsFull f fs h) in
      let e : length (f ++ joined fs) ≡ length f + length (joined fs) = length-append f (joined fs) in
      grind (arith, e, one, more)

  cuts-one : (n : ℕ) (f w : List ℕ) → IsFull f → cuts size (suc n) (f ++ w) ≡ f ∷ cuts size n w
  cuts-one n f w h = ap (λ x. x ∷ cuts size n (drop size (f ++ w))) (take_at f w size h) ∙ ap (λ x. f ∷ cuts size n x) (drop_at f w size h)

  pub cuts_full : (fs : List (List ℕ)) (w : List ℕ) → All IsFull fs → cuts size (length fs) (joined fs ++ w) ≡ fs
  cuts_full [] w h = refl
  cuts_full (f ∷ fs) w h =
      ap (λ l. cuts size (suc (length fs)) l) (append_assoc f (joined fs) w)
      ∙ cuts-one (length fs) f (joined fs ++ w) (All-head IsFull f fs h)
      ∙ ap (λ l. f ∷ l) (cuts_full fs w (All-tail IsFull f fs h))

  pub cuts_last : (fs : List (List ℕ)) (w : List ℕ) → All IsFull fs → length w ≤ size → cuts size (suc (length fs)) (joined fs ++ w) ≡ fs ++ w ∷ []
  cuts_last [] w h k = ap (λ l. l ∷ []) (take_all size w k)
  cuts_last (f ∷ fs) w h k =
      ap (λ l. cuts size (suc (suc (length fs))) l) (append_assoc f (joined fs) w)
      ∙ cuts-one (suc (length fs)) f (joined fs ++ w) (All-head IsFull f fs h)
      ∙ ap (λ l. f ∷ l) (cuts_last fs w (All-tail IsFull f fs h) k)

  length_stream : (fs : List (List ℕ)) (w : List ℕ) → All IsFull fs → length (joined fs ++ w) ≡ length fs * size + length w
  length_stream fs w h = length-append (joined fs) w ∙ ap (λ n. n + length w) (length_joined fs h)

  -- while packets come, the full fields are those that were taken
  pub full_are : (fs : List (List ℕ)) (w stream : List ℕ) → stream ≡ joined fs ++ w → All IsFull fs → length w < size → fs ≡ full_fields size stream
  full_are fs w stream e h k =
      let n : length stream / size ≡ length fs = ap (λ l. length l / size) e ∙ ap (λ l. l / size) (length_stream fs w h) ∙ div-mul-add (length fs) size (length w) k in
      sym (ap (λ m. cuts size m stream) n ∙ ap (λ l. cuts size (length fs) l) e ∙ cuts_full fs w h)

  -- at the end nothing was left
  pub fields_are : (fs : List (List ℕ)) (w stream : List ℕ) → stream ≡ joined fs ++ w → All IsFull fs → length w ≡ 0 → 0 < size → fs ≡ fields_of size stream
  fields_are fs w stream e h k positive =
      let long : length stream + (size - 1) ≡ length fs * size + (size - 1) = ap (λ l. length l + (size - 1)) e ∙ ap (λ l. l + (size - 1)) (length_stream fs w h) ∙ omega (arith, k) in
      let n : (length stream + (size - 1)) / size ≡ length fs = ap (λ l. l / size) long ∙ div-mul-add (length fs) size (size - 1) (omega arith) in
      sym (ap (λ m. cuts size m stream) n ∙ ap (λ l. cuts size (length fs) l) e ∙ cuts_full fs w h)

  -- or the last field
  pub fields_are_and : (fs : List (List ℕ)) (w stream : List ℕ) → stream ≡ joined fs ++ w → All IsFull fs → 0 < length w → length w < size → fs ++ w ∷ [] ≡ fields_of size stream
  fields_are_and fs w stream e h some k =
      let c : suc (length fs) * size ≡ length fs * size + size = omega arith in
      let long : length stream + (size - 1) ≡ suc (length fs) * size + (length w - 1) = ap (λ l. length l + (size - 1)) e ∙ ap (λ l. l + (size - 1)) (length_stream fs w h) ∙ omega (arith, c) in
      let n : (length stream + (size - 1)) / size ≡ suc (length fs) = ap (λ l. l / size) long ∙ div-mul-add (suc (length fs)) size (length w - 1) (omega arith) in
      sym (ap (λ m. cuts size m stream) n ∙ ap (λ l. cuts size (suc (length fs)) l) e ∙ cuts_last fs w h (omega arith))
