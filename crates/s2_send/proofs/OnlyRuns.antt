-- Two runs over the same bytes, in which neither a read nor a write failed, answer the same and write the same.
use Rattle.std.proofs.Common.{◌≡◌, ◌≢◌, ℕ, Bool, true, false, zero, suc, ◌+◌, ◌-◌, ◌/◌, ◌<◌, ◌≤◌, inl, inr, All, append_assoc, length-append, List, [], ◌∷◌, ◌++◌, Option, Some, None, Result, Ok, Err, length, take, drop, refl, sym, ap, subst, ◌∙◌, arith, append-nil, length-take}
use Rattle.std.specs.Prelude.{◌==◌, nat_lt, if◌then◌else◌}
use Rattle.std.proofs.lemmas.Bool.{cases_lt, eq-eqb, ne_eqb, lt-ltb, le-ltb}
use Rattle.std.proofs.lemmas.List.{take_at, get_or_append_left}
use Rattle.std.specs.Io.KnownBytes.{Appends}
use Rattle.s2_mode.specs.Mode.{Mode}
use Rattle.s2_bbframe.specs.DataStream.{IsPacket, IsReady, Slicing, Sliced, stream_of, cuts, full_fields, fields_of, field_bytes, header_at}
use Rattle.s2_send.specs.declared.outcome.Counts.{Counts}
use Rattle.s2_send.specs.declared.outcome.SendFault.{SendFault}
use Rattle.s2_send.specs.declared.outcome.SendFault.TheVariants.{NotWholePacket, NoSync, Read, Write}
use Rattle.s2_bbframe.specs.declared.header.Header.{Header}
use Rattle.s2_send.specs.Frames.{IsUnitOf, sent_behind}
use Rattle.s2_send.specs.Hints.{size_told}
use Rattle.s2_send.specs.Transmitter.{Transmitter}
use Rattle.s2_send.specs.Sending.{joined, is_due, AreUnits}
use Rattle.s2_send.specs.Sender.{Stream, Sender, Past, HasPast, StopsThere, AreCut, HasNoPacket, EndsAs, IsAll, transmitter_of}
use Rattle.s2_send.specs.Laws.{IsLinkOf, FrameLaw, NoneFailed, ReadFails, RunLaw, GivesLaw, AsRunLaw}
use Rattle.s2_send.proofs.RunSteps.{open_fields, closed_fields}
use Rattle.s2_send.proofs.PacketsRead.{same_packets, Leaves, leaves_stop, fields_by, Reading, reading, none_begun}

-- ---- the answer

-- by what was read
abbrev pub answer_to : ℕ → ℕ → List ℕ → Result Counts SendFault
answer_to packets frames left =
    if length left == 0
    then Ok (record { packets = packets; frames = frames })
    else if nat_lt (length left) 188
    then Err NotWholePacket
    else Err (NoSync (packets + 1) (size_told (packets + 1) (take 188 left)))

answered : (packets frames : ℕ) (left : List ℕ) (result : Result Counts SendFault) → Leaves packets left result → ((c : Counts) → result ≡ Ok c → c.frames ≡ frames)
    → result ≡ answer_to packets frames left
answered packets frames left (Ok c) h k =
    let none : length left ≡ 0 = ap length h.0 in
    let sent = k c refl in
    rw (eq-eqb (length left) 0 none) (λ t. Ok (record { packets = h.1 t; frames = sent t }))
answered packets frames left (Err NotWholePacket) h k =
    let some : length left ≢ 0 = omega (arith, h.0) in
    rw (ne_eqb (length left) 0 some, lt-ltb (length left) 188 h.1) refl
answered packets frames left (Err (NoSync packet told)) h k =
    let some : length left ≢ 0 = omega (arith, h.0) in
    rw (ne_eqb (length left) 0 some, le-ltb (length left) 188 h.0) (ap (λ t. Err (NoSync packet t)) h.3 ∙ ap (λ p. Err (NoSync p (size_told p (take 188 left)))) h.2)
answered packets frames left (Err Read) h k = absurd h
answered packets frames left (Err Write) h k = absurd h

-- as many frames as fields
frame_count : (size : ℕ) (bytes : List ℕ) (packets fields : List (List ℕ)) (result : Result Counts SendFault) → Reading size bytes packets fields result
    → (c : Counts) → result ≡ Ok c → c.frames ≡ length (fields_of size (stream_of packets))
frame_count size bytes packets fields result r c e = r.frame_count c e ∙ ap length (r.fields_are ∙ ap (fields_by size (stream_of packets)) e)

-- ---- the units

module _ (m : Mode) (law : FrameLaw m) (t : Transmitter) (linked : IsLinkOf m t.link) where
  abbrev size : ℕ
  size = field_bytes t.link.setup.mode

  same_unit : (due : Bool) (header : Header) (field a b : List ℕ) → length field ≤ field_bytes m → IsUnitOf t.link due header field a → IsUnitOf t.link due header field b → a ≡ b
  same_unit due header field a b fits A B =
      A.spelt ∙ (ap (λ f. f ++ sent_behind t.link due) (law t.link header field A.frame B.frame linked fits A.is_frame B.is_frame) ∙ sym B.spelt)

  same_cuts : (n number at : ℕ) (stream : List ℕ) (us vs : List (List ℕ)) → AreUnits t number at (cuts size n stream) us → AreUnits t number at (cuts size n stream) vs → us ≡ vs
  same_cuts zero number at stream [] [] A B = refl
  same_cuts zero number at stream [] (v ∷ vs) A B = absurd B
  same_cuts zero number at stream (u ∷ us) vs A B = absurd A
  same_cuts (suc n) number at stream [] vs A B = absurd A
  same_cuts (suc n) number at stream (u ∷ us) [] A B = absurd B
  same_cuts (suc n) number at stream (u ∷ us) (v ∷ vs) A B =
      let field = take size stream in
      let fits : length field ≤ field_bytes m = omega (arith, length-take size stream, ap field_bytes linked.0) in
      let front : u ≡ v = same_unit (is_due t.dummy_every number) (header_at t.link.setup.roll_off at field) field u v fits A.0 B.0 in
      let others = same_cuts n (number + 1) (at + length field) (drop size stream) us vs A.1 B.1 in
      λ i. front i ∷ others i

  same_units : (stream : List ℕ) (result : Result Counts SendFault) (us vs : List (List ℕ))
      → AreUnits t 1 0 (fields_by size stream result) us → AreUnits t 1 0 (fields_by size stream result) vs → us ≡ vs
  same_units stream (Ok counts) us vs A B = same_cuts ((length stream + (size - 1)) / size) 1 0 stream us vs A B
  same_units stream (Err fault) us vs A B = same_cuts (length stream / size) 1 0 stream us vs A B

-- what a writer holds then
written : (held begun : List ℕ) (writer : Option (List ℕ)) (units : List (List ℕ)) → begun ≡ [] → Appends (Some held) writer (joined units ++ begun) → writer ≡ Some (held ++ joined units)
written held begun None units none h = absurd h
written held begun (Some now) units none h = ap (λ l. Some l) (h ∙ ap (λ l. held ++ l) (ap (λ l. joined units ++ l) none ∙ append-nil (joined units)))

-- two readings of the same bytes end in the same way, with the same fields
module _ (n : ℕ) (bytes : List ℕ) (ps qs fs gs : List (List ℕ)) (a b : Result Counts SendFault) (all_ps : All IsPacket ps) (all_qs : All IsPacket qs) (ra : Reading n bytes ps fs a) (rb : Reading n bytes qs gs b) where
  same_front : (ps ≡ qs) × (ra.left ≡ rb.left)
  same_front = same_packets ps qs ra.left rb.left all_ps all_qs (leaves_stop _ ra.left a ra.leaves) (leaves_stop _ rb.left b rb.leaves) (sym ra.bytes_are ∙ rb.bytes_are)

  same_end : a ≡ b
  same_end =
      answered (length ps) (length (fields_of n (stream_of ps))) ra.left a ra.leaves (frame_count n bytes ps fs a ra)
      ∙ ((λ i. answer_to (length (same_front.0 i)) (length (fields_of n (stream_of (same_front.0 i)))) (same_front.1 i))
      ∙ sym (answered (length qs) (length (fields_of n (stream_of qs))) rb.left b rb.leaves (frame_count n bytes qs gs b rb)))

  same_fields : gs ≡ fields_by n (stream_of ps) a
  same_fields = rb.fields_are ∙ sym (λ i. fields_by n (stream_of (same_front.0 i)) (same_end i))

pub one_run_law : (m : Mode) → FrameLaw m → RunLaw m
one_run_law m law = λ t bytes held count_a count_b new_a new_b reader_a reader_b writer_a writer_b a b linked none_a none_b A B.
    let n = field_bytes t.link.setup.mode in
    let ra = reading t.limit n (ReadFails t.limit count_a new_a) bytes reader_a A.packets A.rest A.fields a none_a A.read A.ends A.outcome in
    let rb = reading t.limit n (ReadFails t.limit count_b new_b) bytes reader_b B.packets B.rest B.fields b none_b B.read B.ends B.outcome in
    let units : A.units ≡ B.units =
    same_units m law t linked (stream_of A.packets) a A.units B.units
    (subst (λ l. AreUnits t 1 0 l A.units) ra.fields_are A.are_units)
    (subst (λ l. AreUnits t 1 0 l B.units) (same_fields n bytes A.packets B.packets A.fields B.fields a b A.each_is_packet B.each_is_packet ra rb) B.are_units) in (
      same_end n bytes A.packets B.packets A.fields B.fields a b A.each_is_packet B.each_is_packet ra rb,
      written held A.begun writer_a A.units (none_begun t reader_a A.packets A.fields A.begun a none_a A.begins) A.written
          ∙ ((λ i. Some (held ++ joined (units i)))
          ∙ sym (written held B.begun writer_b B.units (none_begun t reader_b B.packets B.fields B.begun b none_b B.begins) B.written)),
    )

-- ---- a sender, beside a run

-- the bytes behind the packets that a sender accepted, by how it ended
sender_leaves : (s : Stream) (packets : ℕ) (more : List ℕ) (told : Result Counts SendFault) → StopsThere s → s.packets ≡ packets → EndsAs s told → IsAll more told → NoneFailed told
    → Leaves packets (s.held ++ more) told
sender_leaves s packets more (Ok counts) stops count ends all none =
    let nothing : s.held ≡ [] = stops.at_end ends.0 in
    ((λ i. nothing i ++ all i), ends.1 ∙ count)
sender_leaves s packets more (Err NotWholePacket) stops count ends all none =
    let long : length (s.held ++ more) ≡ length s.held + length more = length-append s.held more in
    let nothing : length more ≡ 0 = ap length all in
    (omega (arith, long, ends.1.1), omega (arith, long, nothing, ends.1.2))
sender_leaves s packets more (Err (NoSync packet told)) stops count ends all none =
    let (few, whole, no_sync, number, size) = ends.1 in
    let long : length (s.held ++ more) ≡ length s.held + length more = length-append s.held more in
    let some : 0 < length s.held = omega (arith, whole) in (
      omega (arith, long, whole),
      λ e. no_sync (sym (get_or_append_left s.held more 0 0 some) ∙ e),
      number ∙ ap (λ n. n + 1) count,
      size ∙ ap (size_told packet) (sym (take_at s.held more 188 whole)),
    )
sender_leaves s packets more (Err Read) stops count ends all none = absurd (none.0 refl)
sender_leaves s packets more (Err Write) stops count ends all none = absurd ends.1

-- its fields
sender_fields : (s : Stream) (packets fields : List (List ℕ)) (told : Result Counts SendFault) → StopsThere s → (IsReady s.slicing → ⊥) → Sliced packets fields s.slicing → AreCut packets fields s.slicing → EndsAs s told
    → fields ≡ fields_by s.slicing.size (stream_of packets) told
sender_fields s packets fields (Ok counts) stops not_ready sliced cut ends = closed_fields packets fields s.slicing ends.0 (omega (arith, stops.large)) not_ready sliced cut
sender_fields s packets fields (Err fault) stops not_ready sliced cut ends = open_fields packets fields s.slicing ends.0 not_ready sliced cut

sender_count : (s : Stream) (fields : List (List ℕ)) (told : Result Counts SendFault) → s.fields ≡ length fields → EndsAs s told → (counts : Counts) → told ≡ Ok counts → counts.frames ≡ length fields
sender_count s fields (Ok counts) count ends other e = (let same : other ≡ counts = cc in ap (λ x. x.frames) same) ∙ (ends.2 ∙ count)
sender_count s fields (Err fault) count ends other e = absurd (cc)

sender_reading : (s : Sender) (past : Past) (more : List ℕ) (told : Result Counts SendFault) → StopsThere s.stream → (h : HasPast past s) → (IsReady s.stream.slicing → ⊥) → EndsAs s.stream told → IsAll more told → NoneFailed told
    → Reading (field_bytes s.link.setup.mode) (past.bytes ++ more) h.came.packets past.fields told
sender_reading s past more told stops h not_ready ends all none = record {
  left = s.stream.held ++ more;
  bytes_are = ap (λ l. l ++ more) h.came.bytes_are ∙ append_assoc (joined h.came.packets) s.stream.held more;
  leaves = sender_leaves s.stream (length h.came.packets) more told stops h.came.packet_count ends all none;
  fields_are = sender_fields s.stream h.came.packets past.fields told stops not_ready h.came.sliced h.came.are_cut ends ∙ ap (λ n. fields_by n (stream_of h.came.packets) told) h.size;
  frame_count = sender_count s.stream past.fields told h.came.field_count ends;
}

pub as_run_law : (m : Mode) → FrameLaw m → AsRunLaw m
as_run_law m law = λ s past more held count_old count_new reader_new writer_new told result linked stops h not_ready ends all none_told none_result B.
    let t = transmitter_of s in
    let n = field_bytes t.link.setup.mode in
    let bytes = past.bytes ++ more in
    let ra = sender_reading s past more told stops h not_ready ends all none_told in
    let rb = reading t.limit n (ReadFails t.limit count_old count_new) bytes reader_new B.packets B.rest B.fields result none_result B.read B.ends B.outcome in
    let units : past.units ≡ B.units =
    same_units m law t linked (stream_of h.came.packets) told past.units B.units
    (subst (λ l. AreUnits t 1 0 l past.units) ra.fields_are h.are_units)
    (subst (λ l. AreUnits t 1 0 l B.units) (same_fields n bytes h.came.packets B.packets past.fields B.fields told result h.came.each_is_packet B.each_is_packet ra rb) B.are_units) in (
      sym (same_end n bytes h.came.packets B.packets past.fields B.fields told result h.came.each_is_packet B.each_is_packet ra rb),
      written held B.begun writer_new B.units (none_begun t reader_new B.packets B.fields B.begun result none_result B.begins) B.written
          ∙ (λ i. Some (held ++ joined (sym units i))),
    )

-- ---- what comes of a stream

no_packet_held : (s : Stream) → StopsThere s → HasNoPacket s.held
no_packet_held s stops = elim (cases_lt (length s.held) 188) [
  | inl short ↦ inl short
  | inr whole ↦ inr (stops.at_refusal (omega (arith, whole, stops.part)))
]

fields_given : (closed : Bool) (packets fields : List (List ℕ)) (S : Slicing) → S.closed ≡ closed → 0 < S.size → (IsReady S → ⊥) → Sliced packets fields S → AreCut packets fields S
    → fields ≡ (if closed then fields_of S.size (stream_of packets) else full_fields S.size (stream_of packets))
fields_given true packets fields S is some not_ready sliced cut = closed_fields packets fields S is some not_ready sliced cut
fields_given false packets fields S is some not_ready sliced cut = open_fields packets fields S is not_ready sliced cut

pub gives_law : GivesLaw
gives_law = λ s past stops h not_ready. record {
  packets = h.came.packets;
  left = s.stream.held;
  fields = past.fields;
  each_is_packet = h.came.each_is_packet;
  bytes_are = h.came.bytes_are;
  no_more = no_packet_held s.stream stops;
  fields_are = fields_given s.stream.slicing.closed h.came.packets past.fields s.stream.slicing refl (omega (arith, stops.large)) not_ready h.came.sliced h.came.are_cut
      ∙ ap (λ n. if s.stream.slicing.closed then fields_of n (stream_of h.came.packets) else full_fields n (stream_of h.came.packets)) h.size;
  are_units = h.are_units;
  are_codewords = h.are_codewords;
}
