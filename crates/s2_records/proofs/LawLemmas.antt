-- Files of whole frames, and frames of a stream's data fields.
use Rattle.std.proofs.Common.{◌≡◌, ℕ, ◌+◌, ◌<◌, List, [], ◌∷◌, ◌++◌, All, None, length, map, refl, sym, ap, ◌∙◌, append-nil, arith}
use Rattle.std.specs.Prelude.{count_by, cond}
use Rattle.std.proofs.lemmas.List.Sums.{sum_by-cons}
use Rattle.s2_mode.specs.Mode.{Mode, IsMode, HasCodeSizes}
use Rattle.s2_mode.proofs.Modes.{code_sizes}
use Rattle.s2_bbframe.specs.DataStream.{IsPacket, stream_of, header_at}
use Rattle.s2_bbframe.specs.Joining.{field, Placed, events_from, joining}
use Rattle.s2_bbframe.proofs.RoundTrips as trips
use Rattle.s2_receive.specs.Laws.{joined}
use Rattle.s2_receive.specs.Receiving.{delivery}
use Rattle.s2_records.specs.Frames.{frame_bytes, delivered_in, event_of, frames_in, cut_in}
use Rattle.s2_records.specs.Counting.{is_delivered}
use Rattle.s2_records.specs.JoinLaws.{AreFramesOf, GivesBack}
use Rattle.s2_records.proofs.CutLemmas.{IsWhole, frames_are, rest_is}

pub together : (m : Mode) (frames : List (List ℕ)) → IsMode m → All (IsWhole (frame_bytes m)) frames → (frames_in m (joined frames) ≡ frames) × (cut_in m (joined frames) ≡ 0)
together m frames is each =
    let sizes : HasCodeSizes m = code_sizes m is in
    let some : 0 < frame_bytes m = omega (arith, sizes.field) in
    let alone = append-nil (joined frames) in
    (ap (frames_in m) (sym alone) ∙ frames_are (frame_bytes m) frames [] each some, ap (cut_in m) (sym alone) ∙ rest_is (frame_bytes m) frames [] each some)

-- what comes to the joiner is these fields
events_are : (m : Mode) (roll_off at : ℕ) (fields frames : List (List ℕ)) → AreFramesOf m roll_off at fields frames → map (event_of m) frames ≡ events_from roll_off at fields
events_are m roll_off at [] [] h = refl
events_are m roll_off at [] (frame ∷ frames) h = absurd h
events_are m roll_off at (f ∷ fs) [] h = absurd h
events_are m roll_off at (f ∷ fs) (frame ∷ frames) h =
    ap (λ e. e ∷ map (event_of m) frames) (ap delivery h.0) ∙ ap (λ l. field (header_at roll_off at f) f ∷ l) (events_are m roll_off (at + length f) fs frames h.1)

all_delivered : (m : Mode) (roll_off at : ℕ) (fields frames : List (List ℕ)) → AreFramesOf m roll_off at fields frames → count_by (λ frame. is_delivered (delivered_in m frame)) frames ≡ length frames
all_delivered m roll_off at [] [] h = refl
all_delivered m roll_off at [] (frame ∷ frames) h = absurd h
all_delivered m roll_off at (f ∷ fs) [] h = absurd h
all_delivered m roll_off at (f ∷ fs) (frame ∷ frames) h =
    let counted : ℕ = cond (is_delivered (delivered_in m frame)) 1 0 in
    let one : counted ≡ 1 = ap (λ o. cond (is_delivered o) 1 0) h.0 in
    let more = all_delivered m roll_off (at + length f) fs frames h.1 in
    sum_by-cons (λ x. cond (is_delivered (delivered_in m x)) 1 0) frame frames ∙ omega (arith, one, more)

pub round_trip : (m : Mode) (roll_off : ℕ) (packets fields frames : List (List ℕ)) (rest : List ℕ)
    → All IsPacket packets → stream_of packets ≡ joined fields ++ rest → Placed 0 fields → AreFramesOf m roll_off 0 fields frames → GivesBack m packets fields frames
round_trip m roll_off packets fields frames rest each stream placed are =
    let events = events_are m roll_off 0 fields frames are in
    let given = trips.round_trip roll_off packets fields rest each stream placed in
    record {
      good = ap (λ l. (joining None l).good) events ∙ given.0;
      delivered = all_delivered m roll_off 0 fields frames are;
      bad = ap (λ l. (joining None l).bad) events ∙ given.1;
    }
