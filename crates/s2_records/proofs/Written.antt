-- The zeros for a gap, and a BBFRAME after them.
use Rattle.std.proofs.Common.{◌≡◌, ℕ, if◌then◌else◌, Bool, List, [], Option, Result, Ok, Err, OnOk, OnErr, refl, ap, ◌∙◌, subst}
use Rattle.std.specs.Io.KnownBytes.{Appends}
use Rattle.std.proofs.KnownBytes.{Appends-trans}
use Rattle.s2_mode.specs.Mode.{Mode}
use Rattle.s2_mode.specs.Pieces.{AppendsPart}
use Rattle.s2_mode.proofs.Parts.{part_first, part_second}
use Rattle.s2_certfile.specs.Field.{bytes_of_bits}
use Rattle.s2_scramble.specs.Baseband.{scrambled}
use Rattle.s2_receive.specs.Receiving.{Decision}
use Rattle.s2_records.specs.Records.{bbframe_bytes, gap_bytes, has_bbframe, message_bytes, no_bbframe}

-- what was written before a frame, and for it
abbrev pub before : Bool → List ℕ → List ℕ
before after_gap zeros = if after_gap then zeros else []

abbrev pub written : Bool → List Bool → List ℕ → List ℕ
written delivered message zeros = if delivered then bytes_of_bits (scrambled message) else zeros

gap_is : (m : Mode) (after_gap : Bool) (zeros : List ℕ) → zeros ≡ no_bbframe m → before after_gap zeros ≡ gap_bytes m after_gap
gap_is m after_gap zeros none = ap (before after_gap) none

frame_is : (m : Mode) (decision : Decision) (delivered : Bool) (message : List Bool) (zeros : List ℕ) → delivered ≡ has_bbframe m decision → message ≡ decision.message → zeros ≡ no_bbframe m → written delivered message zeros ≡ message_bytes m decision
frame_is m decision delivered message zeros said same none =
    ap (λ d. written d message zeros) said ∙ ap (λ x. written (has_bbframe m decision) x zeros) same ∙ ap (written (has_bbframe m decision) decision.message) none

-- the zeros failed
pub gap_fails : (m : Mode) (decision : Decision) (after_gap : Bool) (zeros : List ℕ) (a b : Option (List ℕ)) → zeros ≡ no_bbframe m → AppendsPart (before after_gap zeros) a b → AppendsPart (bbframe_bytes m after_gap decision) a b
gap_fails m decision after_gap zeros a b none h =
    part_first a b (gap_bytes m after_gap) (message_bytes m decision) (subst (λ l. AppendsPart l a b) (gap_is m after_gap zeros none) h)

module _ (m : Mode) (decision : Decision) (after_gap delivered : Bool) (message : List Bool) (zeros zeros' : List ℕ) (a b c : Option (List ℕ)) (none : zeros ≡ no_bbframe m) (said : delivered ≡ has_bbframe m decision) (same : message ≡ decision.message) (none' : zeros' ≡ no_bbframe m) (gap : Appends a b (before after_gap zeros)) where
  -- both were written
  pub frame_taken : {T E : Type 0} (r : Result T E) → OnOk r (Appends b c (written delivered message zeros')) → OnOk r ((m ≡ m) × Appends a c (bbframe_bytes m after_gap decision))
  frame_taken (Ok x) h =
      let first = subst (Appends a b) (gap_is m after_gap zeros none) gap in
      (refl, Appends-trans a b c (gap_bytes m after_gap) (message_bytes m decision) first (subst (Appends b c) (frame_is m decision delivered message zeros' said same none') h))
  frame_taken (Err e) h = tt

  -- the frame failed
  pub frame_fails : {T E : Type 0} (r : Result T E) → OnErr r (AppendsPart (written delivered message zeros') b c) → OnErr r ((m ≡ m) × AppendsPart (bbframe_bytes m after_gap decision) a c)
  frame_fails (Ok x) h = tt
  frame_fails (Err e) h =
      let first = subst (Appends a b) (gap_is m after_gap zeros none) gap in
      (refl, part_second a b c (gap_bytes m after_gap) (message_bytes m decision) first (subst (λ l. AppendsPart l b c) (frame_is m decision delivered message zeros' said same none') h))
