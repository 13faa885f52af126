-- Bytes that are two parts.
use Rattle.std.proofs.Common.{◌≡◌, ℕ, List, ◌++◌, ◌∙◌, Bool, true, false, IsTrue, ◌↔◌, length, take, drop, ap, sym, subst, refl}
use Rattle.std.specs.Cmp.Lexicographic.{pointwise}
use Rattle.std.proofs.Math.Dec.{eqb}
use Rattle.std.proofs.Math.Seq.{drop-append_seam, take-append_seam}
use Rattle.std.proofs.lemmas.Bool.Decides.{Decides-eqb}
use Rattle.std.proofs.lemmas.List.{take-append-drop}
use Rattle.std.proofs.lemmas.Slice.Eq.{slice_eq-Decides}
use Rattle.s2_replay.specs.Lines.{BeginsWith}

-- the first one is there, and what is left is compared with the second one
pub joined : (s front back rest : List ℕ) (r : Bool) → pointwise eqb (take (length front) s) front ≡ true → rest ≡ drop (length front) s → r ≡ pointwise eqb rest back → IsTrue r ↔ (s ≡ front ++ back)
joined s front back rest r begins is_rest tells =
    let first : take (length front) s ≡ front = (slice_eq-Decides Decides-eqb (take (length front) s) front (pointwise eqb (take (length front) s) front) refl).0 begins in
    let decides = slice_eq-Decides Decides-eqb rest back r tells in
    let parts : s ≡ front ++ drop (length front) s = subst (λ part. s ≡ part ++ drop (length front) s) first (sym (take-append-drop (length front) s)) in (
      λ yes. parts ∙ ap (λ part. front ++ part) (sym is_rest ∙ decides.0 yes),
      λ same. decides.1 (is_rest ∙ (ap (λ text. drop (length front) text) same ∙ drop-append_seam front back)),
    )

-- the first one is not there
pub not_joined : (s front back : List ℕ) → pointwise eqb (take (length front) s) front ≡ false → s ≡ front ++ back → ⊥
not_joined s front back differs same =
    let first : take (length front) s ≡ front = ap (λ text. take (length front) text) same ∙ take-append_seam front back in
    let begins : pointwise eqb (take (length front) s) front ≡ true = (slice_eq-Decides Decides-eqb (take (length front) s) front (pointwise eqb (take (length front) s) front) refl).1 first in
    let never : true ≡ false = sym begins ∙ differs in
    absurd (cc)

-- they begin with it, or not
pub begun : (s front : List ℕ) → pointwise eqb (take (length front) s) front ≡ true → BeginsWith front s
begun s front begins =
    let first : take (length front) s ≡ front = (slice_eq-Decides Decides-eqb (take (length front) s) front (pointwise eqb (take (length front) s) front) refl).0 begins in
    (drop (length front) s, subst (λ part. s ≡ part ++ drop (length front) s) first (sym (take-append-drop (length front) s)))

pub not_begun : (s front : List ℕ) → pointwise eqb (take (length front) s) front ≡ false → BeginsWith front s → ⊥
not_begun s front differs (rest, same) = not_joined s front rest differs same
