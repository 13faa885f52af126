-- Parts of a data stream, each cut anywhere into fields, give the packets that lie whole in them.
use Rattle.std.proofs.Common.{◌≡◌, ℕ, zero, suc, ◌+◌, ◌-◌, ◌*◌, ◌/◌, ◌%◌, ◌<◌, ◌≤◌, true, false, List, [], ◌∷◌, ◌++◌, All, Option, Some, None, length, take, drop, refl, sym, ap, ◌∙◌, length-append, length-drop, length-take, take-append-drop, take-take, drop-drop, arith, cond, eq-eqb, ne_eqb, lt-ltb, inl, inr}
use Rattle.std.specs.Prelude.{nat_eq, nat_lt}
use Rattle.std.specs.List.{flat_map}
use Rattle.std.proofs.Math.Seq.{drop-append-add, drop-nil}
use Rattle.std.proofs.lemmas.Bool.{cases_lt, le-ltb}
use Rattle.std.proofs.lemmas.List.{nil_from_length, drop-append-le, drop-take}
use Rattle.std.proofs.lemmas.List.Elements.{All-head, All-tail, All-drop}
use Rattle.s2_bbframe.specs.DataStream.{IsPacket, closed_body, stream_of, to_place}
use Rattle.s2_bbframe.specs.Joining.{field, run_of, still, inside, place_in, begins, step, begun_body, incomplete_in, incomplete, and_then, joining, closed_in}
use Rattle.s2_bbframe.specs.Gaps.{syncd_of, header_of_cut, Part, bytes_in, IsPartOf, cut_events, parted, begun_before, whole_in, PartsLaw, AcrossLaw}
use Rattle.s2_bbframe.proofs.Runs.{run-append, run-length, length_closed, front-run}
use Rattle.s2_bbframe.proofs.Events.{none-and_then, joining-append, incomplete-append, begun_body-le}

-- ---- one field

-- inside a run the header of each field names the run's next place
names_next : (at x : ℕ) (xs body : List ℕ) → 0 < at → length body ≡ (at - 1) % 188 → nat_eq (syncd_of at (x ∷ xs)) (place_in body (x ∷ xs)) ≡ true
names_next at x xs body positive here =
    let place : to_place at ≡ 187 - length body = omega arith in
    let same = ap (λ n. cond (nat_lt n (length (x ∷ xs))) (8 * n) 65535) place in
    eq-eqb (syncd_of at (x ∷ xs)) (place_in body (x ∷ xs)) same

joined_two : (body xs ys : List ℕ) → and_then (inside (run_of body xs)) (inside (run_of (run_of body xs).body ys)) ≡ inside (run_of body (xs ++ ys))
joined_two body xs ys = ap inside (sym (run-append xs ys body))

module _ (ro : ℕ) where
  -- so it goes on
  goes : (at : ℕ) (bytes body : List ℕ) → 0 < at → length body ≡ (at - 1) % 188 → step (Some body) (field (header_of_cut ro at bytes) bytes) ≡ inside (run_of body bytes)
  goes at [] body positive here = refl
  goes at (x ∷ xs) body positive here =
      ap (λ b. cond b (inside (run_of body (x ∷ xs))) (begins (syncd_of at (x ∷ xs)) (x ∷ xs))) (names_next at x xs body positive here)

  -- and drops no body
  keeps : (at : ℕ) (bytes body : List ℕ) → 0 < at → length body ≡ (at - 1) % 188 → incomplete_in (Some body) (field (header_of_cut ro at bytes) bytes) ≡ 0
  keeps at [] body positive here = refl
  keeps at (x ∷ xs) body positive here = ap (λ b. cond b 0 (begun_body (Some body))) (names_next at x xs body positive here)

  none_to_tear : (at : ℕ) (bytes : List ℕ) → incomplete_in None (field (header_of_cut ro at bytes) bytes) ≡ 0
  none_to_tear at [] = refl
  none_to_tear at (x ∷ xs) = refl

  -- while it is lost it stays so in a field without a place
  stays : (at : ℕ) (bytes : List ℕ) → length bytes ≤ to_place at → step None (field (header_of_cut ro at bytes) bytes) ≡ still None
  stays at [] h = refl
  stays at (x ∷ xs) h =
      let beyond : nat_lt (to_place at) (length (x ∷ xs)) ≡ false = le-ltb (to_place at) (length (x ∷ xs)) (omega arith) in
      ap (λ b. begins (cond b (8 * to_place at) 65535) (x ∷ xs)) beyond

  -- and begins a run behind the first place
  finds : (at : ℕ) (bytes : List ℕ) → to_place at < length bytes → step None (field (header_of_cut ro at bytes) bytes) ≡ inside (run_of [] (drop (to_place at + 1) bytes))
  finds at [] h = absurd (omega arith)
  finds at (x ∷ xs) h =
      let there : nat_lt (to_place at) (length (x ∷ xs)) ≡ true = lt-ltb (to_place at) (length (x ∷ xs)) h in
      let some : nat_eq (8 * to_place at) 65535 ≡ false = ne_eqb (8 * to_place at) 65535 (omega arith) in
      let back : 8 * to_place at / 8 ≡ to_place at = omega arith in
      ap (λ b. begins (cond b (8 * to_place at) 65535) (x ∷ xs)) there
      ∙ ap (λ b. cond b (still None) (inside (run_of [] (drop (8 * to_place at / 8 + 1) (x ∷ xs))))) some
      ∙ ap (λ n. inside (run_of [] (drop (n + 1) (x ∷ xs)))) back

  -- ---- all fields of a part

  all_go : (at : ℕ) (fs : List (List ℕ)) (body : List ℕ) → 0 < at → length body ≡ (at - 1) % 188
      → joining (Some body) (cut_events ro at fs) ≡ inside (run_of body (flat_map (λ f. f) fs))
  all_go at [] body positive here = refl
  all_go at (f ∷ fs) body positive here =
      let first = goes at f body positive here in
      let rest = cut_events ro (at + length f) fs in
      let held = (run_of body f).body in
      let long : length held ≡ (length body + length f) % 188 = run-length f body (omega arith) in
      let ih = all_go (at + length f) fs held (omega arith) (omega arith) in
      ap (λ j. and_then j (joining j.held rest)) first ∙ ap (and_then (inside (run_of body f))) ih ∙ joined_two body f (flat_map (λ f. f) fs)

  none_incomplete : (at : ℕ) (fs : List (List ℕ)) (body : List ℕ) → 0 < at → length body ≡ (at - 1) % 188 → incomplete (Some body) (cut_events ro at fs) ≡ 0
  none_incomplete at [] body positive here = refl
  none_incomplete at (f ∷ fs) body positive here =
      let rest = cut_events ro (at + length f) fs in
      let held = (run_of body f).body in
      let long : length held ≡ (length body + length f) % 188 = run-length f body (omega arith) in
      let later = ap (λ j. incomplete j.held rest) (goes at f body positive here) ∙ none_incomplete (at + length f) fs held (omega arith) (omega arith) in
      omega (arith, keeps at f body positive here, later)

  -- how much of a body is held behind the field with the first place
  held_length : (at : ℕ) (f : List ℕ) → to_place at < length f → length (run_of [] (drop (to_place at + 1) f)).body ≡ (at + length f - 1) % 188
  held_length at f h =
      let long = run-length (drop (to_place at + 1) f) [] (omega arith) in
      omega (arith, long, length-drop (to_place at + 1) f)

  stays_lost : (at : ℕ) (fs : List (List ℕ)) → length (flat_map (λ f. f) fs) ≤ to_place at → joining None (cut_events ro at fs) ≡ still None
  stays_lost at [] h = refl
  stays_lost at (f ∷ fs) h =
      let rest = cut_events ro (at + length f) fs in
      let long = length-append f (flat_map (λ f. f) fs) in
      ap (λ j. and_then j (joining j.held rest)) (stays at f (omega arith))
      ∙ ap (and_then (still None)) (stays_lost (at + length f) fs (omega arith))

  runs_on : (at : ℕ) (fs : List (List ℕ)) → to_place at < length (flat_map (λ f. f) fs)
      → joining None (cut_events ro at fs) ≡ inside (run_of [] (drop (to_place at + 1) (flat_map (λ f. f) fs)))
  runs_on at [] h = absurd (omega arith)
  runs_on at (f ∷ fs) h =
      let later = flat_map (λ f. f) fs in
      let next = at + length f in
      let rest = cut_events ro next fs in
      let long = length-append f later in
      elim (cases_lt (to_place at) (length f)) [
        | inl here ↦ (let front = drop (to_place at + 1) f in
            let go = all_go next fs (run_of [] front).body (omega arith) (held_length at f here) in
            ap (λ j. and_then j (joining j.held rest)) (finds at f here) ∙ ap (and_then (inside (run_of [] front))) go ∙ joined_two [] front later
            ∙ ap (λ l. inside (run_of [] l)) (sym (drop-append-le (to_place at + 1) f later (omega arith))))
        | inr none ↦ (let same : to_place at + 1 ≡ length f + (to_place next + 1) = omega arith in
            ap (λ j. and_then j (joining j.held rest)) (stays at f none) ∙ none-and_then None (joining None rest) ∙ runs_on next fs (omega arith)
            ∙ ap (λ l. inside (run_of [] l)) (sym (ap (λ n. drop n (f ++ later)) same ∙ drop-append-add f later (to_place next + 1))))
      ]

  pub lost_incomplete : (at : ℕ) (fs : List (List ℕ)) → incomplete None (cut_events ro at fs) ≡ 0
  lost_incomplete at [] = refl
  lost_incomplete at (f ∷ fs) =
      let next = at + length f in
      let rest = cut_events ro next fs in
      let first = none_to_tear at f in
      elim (cases_lt (to_place at) (length f)) [
        | inl here ↦ (let later = ap (λ j. incomplete j.held rest) (finds at f here) ∙ none_incomplete next fs (run_of [] (drop (to_place at + 1) f)).body (omega arith) (held_length at f here) in omega (arith, first, later))
        | inr none ↦ (let later = ap (λ j. incomplete j.held rest) (stays at f none) ∙ lost_incomplete next fs in omega (arith, first, later))
      ]

-- ---- the packets of a part

drop_bodies : (k : ℕ) (ps : List (List ℕ)) → All IsPacket ps → drop (188 * k) (flat_map closed_body ps) ≡ flat_map closed_body (drop k ps)
drop_bodies zero ps h = refl
drop_bodies (suc k) [] h = drop-nil (188 * suc k)
drop_bodies (suc k) (p ∷ ps) h =
    let first : 188 * suc k ≡ length (closed_body p) + 188 * k = omega (arith, length_closed p (All-head IsPacket p ps h)) in
    ap (λ n. drop n (flat_map closed_body (p ∷ ps))) first ∙ drop-append-add (closed_body p) (flat_map closed_body ps) (188 * k) ∙ drop_bodies k ps (All-tail IsPacket p ps h)

none_whole : (k m : ℕ) (ps : List (List ℕ)) → m ≤ k → drop k (take m ps) ≡ []
none_whole k m ps h = nil_from_length (drop k (take m ps)) (omega (arith, length-drop k (take m ps), length-take m ps))

module _ (ro : ℕ) (packets : List (List ℕ)) (each : All IsPacket packets) where
  -- what stands behind the first place of a part
  behind_place : (at : ℕ) (all rest : List ℕ) → drop at (stream_of packets) ≡ all ++ rest → to_place at < length all
      → flat_map closed_body (drop (begun_before at) packets) ≡ drop (to_place at + 1) all ++ rest
  behind_place at all rest stands h =
      let k = begun_before at in
      let from : suc (188 * k) ≡ at + (to_place at + 1) = omega arith in
      sym (drop_bodies k packets each) ∙ bodies packets (188 * k) (some packets stands) ∙ ap (λ n. drop n (stream_of packets)) from ∙ sym (drop-drop (to_place at + 1) at (stream_of packets))
      ∙ ap (drop (to_place at + 1)) stands ∙ drop-append-le (to_place at + 1) all rest (omega arith)
    where
      some : (ps : List (List ℕ)) → drop at (stream_of ps) ≡ all ++ rest → 0 < length ps
      some [] e = absurd (omega (arith, ap length e, length-drop {A = ℕ}, length-append all rest))
      some (p ∷ ps) e = omega arith

      bodies : (ps : List (List ℕ)) (n : ℕ) → 0 < length ps → drop n (flat_map closed_body ps) ≡ drop (suc n) (stream_of ps)
      bodies [] n e = absurd (omega arith)
      bodies (p ∷ ps) n e = refl

  pub part_given : (part : Part) → IsPartOf (stream_of packets) part
      → ((joining None (cut_events ro part.at part.fields)).good ≡ whole_in packets part) × ((joining None (cut_events ro part.at part.fields)).bad ≡ 0)
  part_given part (rest, stands) =
      let at = part.at in
      let all = bytes_in part in
      let k = begun_before at in
      elim (cases_lt (to_place at) (length all)) [
        | inl there ↦ (let r = runs_on ro at part.fields there in
            let behind = drop (to_place at + 1) all in
            let read = front-run (drop k packets) behind rest (All-drop IsPacket k packets each) (behind_place at all rest stands there) in
            let many : k + length behind / 188 ≡ closed_in (at + length all) = omega (arith, length-drop (to_place at + 1) all) in
            (ap (λ j. j.good) r ∙ read.0 ∙ sym (ap (λ n. drop k (take n packets)) (sym many) ∙ drop-take k (length behind / 188) packets), ap (λ j. j.bad) r ∙ read.1))
        | inr none ↦ (let r = stays_lost ro at part.fields none in
            (ap (λ j. j.good) r ∙ sym (none_whole k (closed_in (at + length all)) packets (omega arith)), ap (λ j. j.bad) r))
      ]

  all_given : (held : Option (List ℕ)) (parts : List Part) → All (IsPartOf (stream_of packets)) parts
      → ((joining held (parted ro parts)).good ≡ flat_map (whole_in packets) parts) × ((joining held (parted ro parts)).bad ≡ 0) × (incomplete held (parted ro parts) ≤ length parts)
  all_given held [] h = (refl, refl, omega arith)
  all_given held (part ∷ parts) h =
      let events = cut_events ro part.at part.fields in
      let one = joining None events in
      let later = joining one.held (parted ro parts) in
      let here = part_given part (All-head (IsPartOf (stream_of packets)) part parts h) in
      let ih = all_given one.held parts (All-tail (IsPartOf (stream_of packets)) part parts h) in
      let both : joining held (parted ro (part ∷ parts)) ≡ and_then one later = none-and_then None (joining None (events ++ parted ro parts)) ∙ joining-append events (parted ro parts) None in
      let tears = incomplete-append events (parted ro parts) None in (
        ap (λ j. j.good) both ∙ ap (λ l. l ++ later.good) here.0 ∙ ap (λ l. whole_in packets part ++ l) ih.0,
        ap (λ j. j.bad) both ∙ omega (arith, here.1, ih.1),
        omega (arith, tears, begun_body-le held, lost_incomplete ro part.at part.fields, ih.2),
      )

pub parts_given : PartsLaw
parts_given ro held packets parts each stand = all_given ro packets each held parts stand

pub across_gap : AcrossLaw
across_gap start end packets h =
    let less : closed_in start ≤ begun_before end = omega arith in
    let front = take (begun_before end) packets in
    ap (λ l. l ++ drop (closed_in start) front) (sym (take-take (closed_in start) (begun_before end) packets less)) ∙ take-append-drop (closed_in start) front
