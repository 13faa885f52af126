-- What a run has done so far, and its steps.
use Rattle.std.proofs.Common.{◌≡◌, ℕ, ◌+◌, ◌-◌, ◌<◌, ◌≤◌, ◌⊎◌, inl, inr, Bool, true, false, List, [], ◌∷◌, ◌++◌, Option, length, take, refl, sym, ap, ◌∙◌, subst, append-nil, length-drop, Result, Ok, Err, arith}
use Rattle.std.specs.Prelude.{MatchBool}
use Rattle.std.proofs.KnownBytes.{Appends-nil, Appends-trans, Consumes-trans, Consumes-nil}
use Rattle.std.specs.Io.KnownBytes.{Consumes, Appends, IsAtEnd}
use Rattle.s2_mode.specs.Pieces.{AppendsPart}
use Rattle.s2_mode.specs.Streams.{OneFailed}
use Rattle.s2_bbframe.specs.DataStream.{Slicing, Sliced, IsReady, next_field, header_at, stream_of, full_fields, fields_of, field_bytes}
use Rattle.s2_send.specs.Frames.{IsCodewordFor, IsUnitOf}
use Rattle.s2_send.specs.Sinks.{Taking, TakesCodewords, TakesOrFails}
use Rattle.s2_send.specs.Transmitter.{Transmitter}
use Rattle.s2_send.specs.declared.outcome.Counts.{Counts}
use Rattle.s2_send.specs.declared.outcome.SendFault.{SendFault}
use Rattle.s2_send.specs.declared.outcome.SendFault.TheVariants.{NotWholePacket, NoSync, Read, Write}
use Rattle.s2_send.specs.Sending.{joined, is_due, AreUnits, AreCodewords, RunsWith, Outcome, EndsThere, EndsTaking, Begins}
use Rattle.s2_send.specs.Sender.{Stream, Sender, Past, HasPast, StopsThere, AreCut, MakesFrame, SameSender, no_past, transmitter_of, with_bytes, with_frame}
use Rattle.s2_send.specs.Running.{Reading, ReadsNext, WritesNext}
use Rattle.s2_send.proofs.Waiting.{ready_full, full_ready}
use Rattle.s2_send.proofs.FrameLengths.{some_unit}
use Rattle.s2_send.proofs.FieldLemmas.{joined-push, AreUnits-last, AreCodewords-last, TakesCodewords-push, full_are, fields_are}

-- ---- which fields were taken

-- while packets come, the full ones
pub open_fields : (packets fields : List (List ℕ)) (S : Slicing) → S.closed ≡ false → (IsReady S → ⊥) → Sliced packets fields S → AreCut packets fields S → fields ≡ full_fields S.size (stream_of packets)
open_fields packets fields S goes not_ready sliced (inl full) =
    let not_full : S.size ≤ length S.waiting → ⊥ = λ k. not_ready (full_ready S goes k) in
    full_are S.size fields S.waiting (stream_of packets) sliced.whole full (omega (arith, not_full))
open_fields packets fields S goes not_ready sliced (inr over) = (let both : true ≡ false = sym over.0 ∙ goes in absurd (cc))

closed_ready : (S : Slicing) → S.closed ≡ true → 0 < length S.waiting → IsReady S
closed_ready S e h = subst (λ b. MatchBool b (0 < length S.waiting) (S.size ≤ length S.waiting)) (sym e) h

-- at the end, all
pub closed_fields : (packets fields : List (List ℕ)) (S : Slicing) → S.closed ≡ true → 0 < S.size → (IsReady S → ⊥) → Sliced packets fields S → AreCut packets fields S → fields ≡ fields_of S.size (stream_of packets)
closed_fields packets fields S over some not_ready sliced (inl full) =
    let nothing : 0 < length S.waiting → ⊥ = λ k. not_ready (closed_ready S over k) in
    fields_are S.size fields S.waiting (stream_of packets) sliced.whole full (omega (arith, nothing)) some
closed_fields packets fields S over some not_ready sliced (inr all) = all.2

-- ---- pasts

same_transmitter : (old new : Sender) → SameSender old new → transmitter_of new ≡ transmitter_of old
same_transmitter old new same = λ i. record { link = same.link i; limit = same.limit i; dummy_every = same.dummy_every i }

pub reads_on : (old new : Sender) (r r' : Option (List ℕ)) (past : Past) → (h : Reading old new r r') → HasPast past old → HasPast (with_bytes h.bytes past) new
reads_on old new r r' past h has = record {
  size = h.size ∙ (has.size ∙ ap (λ l. field_bytes l.setup.mode) (sym h.limit.link));
  came = h.comes past.bytes past.fields has.came;
  are_units = subst (λ t. AreUnits t 1 0 past.fields past.units) (sym (same_transmitter old new h.limit)) has.are_units;
  are_codewords = subst (λ l. AreCodewords l 0 past.fields past.codewords) (sym h.limit.link) has.are_codewords;
}

-- after a frame was made less than a field waits
pub made_waits : (old new : Sender) → StopsThere old.stream → MakesFrame old new → length new.stream.slicing.waiting < 188
made_waits old new stops made =
    let left : length new.stream.slicing.waiting ≡ length old.stream.slicing.waiting - old.stream.slicing.size =
    ap (λ (x : Stream). length x.slicing.waiting) made.stream ∙ length-drop old.stream.slicing.size old.stream.slicing.waiting in
    omega (arith, left, stops.needed)

pub made_open : (old new : Sender) → StopsThere old.stream → old.stream.slicing.closed ≡ false → MakesFrame old new → IsReady new.stream.slicing → ⊥
made_open old new stops goes made ready =
    let closed : new.stream.slicing.closed ≡ false = ap (λ (x : Stream). x.slicing.closed) made.stream ∙ goes in
    let size : new.stream.slicing.size ≡ old.stream.slicing.size = ap (λ (x : Stream). x.slicing.size) made.stream in
    let full : new.stream.slicing.size ≤ length new.stream.slicing.waiting = ready_full new.stream.slicing closed ready in
    let few : length new.stream.slicing.waiting < 188 = made_waits old new stops made in
    absurd (omega (arith, size, full, few, stops.large))

pub made_closed : (old new : Sender) → length old.stream.slicing.waiting < old.stream.slicing.size → old.stream.slicing.closed ≡ true → MakesFrame old new → IsReady new.stream.slicing → ⊥
made_closed old new room over made ready =
    let closed : new.stream.slicing.closed ≡ true = ap (λ (x : Stream). x.slicing.closed) made.stream ∙ over in
    let left : length new.stream.slicing.waiting ≡ length old.stream.slicing.waiting - old.stream.slicing.size =
    ap (λ (x : Stream). length x.slicing.waiting) made.stream ∙ length-drop old.stream.slicing.size old.stream.slicing.waiting in
    let some : 0 < length new.stream.slicing.waiting = subst (λ b. MatchBool b (0 < length new.stream.slicing.waiting) (new.stream.slicing.size ≤ length new.stream.slicing.waiting)) closed ready in
    absurd (omega (arith, left, some, room))

-- ---- the run

-- the sender has a past: its bytes were read, its units are written, and the sink took its codewords
pub record Sent {S : Type 0} (takes : Taking S) (t : Transmitter) (r0 r w0 w : Option (List ℕ)) (k0 k : S) (s : Sender) : Type 0 where
  pub past : Past
  pub has : HasPast past s
  pub is : transmitter_of s ≡ t
  pub consumed : Consumes r0 r past.bytes
  pub written : Appends w0 w (joined past.units)
  pub taken : TakesCodewords takes k0 k past.codewords

-- and the next packet is to be read
pub record Sending {S : Type 0} (takes : Taking S) (t : Transmitter) (r0 r w0 w : Option (List ℕ)) (k0 k : S) (s : Sender) : Type 0 where
  pub sent : Sent takes t r0 r w0 w k0 k s
  pub size : s.stream.slicing.size ≡ field_bytes t.link.setup.mode
  pub held : s.stream.held ≡ []
  pub goes_on : s.stream.slicing.closed ≡ false
  pub not_ready : IsReady s.stream.slicing → ⊥

module _ {S : Type 0} (takes fails : Taking S) (t : Transmitter) (r0 w0 : Option (List ℕ)) (k0 : S) where
  abbrev size : ℕ
  size = field_bytes t.link.setup.mode

  -- nothing has come yet
  pub at_start : (s : Sender) → HasPast no_past s → transmitter_of s ≡ t → s.stream.slicing.size ≡ size → 188 < s.stream.slicing.size → s.stream.held ≡ [] → s.stream.slicing.closed ≡ false → length s.stream.slicing.waiting ≡ 0
      → Sending takes t r0 r0 w0 w0 k0 k0 s
  at_start s has is same large held goes none = record {
    sent = record { past = no_past; has = has; is = is; consumed = Consumes-nil r0; written = Appends-nil w0; taken = refl };
    size = same;
    held = held;
    goes_on = goes;
    not_ready = λ ready. (let full : s.stream.slicing.size ≤ length s.stream.slicing.waiting = ready_full s.stream.slicing goes ready in absurd (omega (arith, full, large, none)));
  }

  -- bytes were read
  pub read_more : (r r' w : Option (List ℕ)) (k : S) (s s1 : Sender) → (h : Reading s s1 r r') → Sent takes t r0 r w0 w k0 k s → Sent takes t r0 r' w0 w k0 k s1
  read_more r r' w k s s1 h sent = record {
    past = with_bytes h.bytes sent.past;
    has = reads_on s s1 r r' sent.past h sent.has;
    is = same_transmitter s s1 h.limit ∙ sent.is;
    consumed = Consumes-trans r0 r r' sent.past.bytes h.bytes sent.consumed h.consumes;
    written = sent.written;
    taken = sent.taken;
  }

  -- a frame was written
  pub wrote_more : (r w w' : Option (List ℕ)) (k k' : S) (s s1 : Sender) → (made : MakesFrame s s1) → takes k k' s1.codeword → Appends w w' s1.unit → Sent takes t r0 r w0 w k0 k s
      → Sent takes t r0 r w0 w' k0 k' s1
  wrote_more r w w' k k' s s1 made took wrote sent = record {
    past = with_frame (next_field s.stream.slicing) s1.codeword s1.unit sent.past;
    has = made.past sent.past sent.has;
    is = same_transmitter s s1 made.same ∙ sent.is;
    consumed = sent.consumed;
    written = subst (Appends w0 w') (sym (joined-push sent.past.units s1.unit)) (Appends-trans w0 w w' (joined sent.past.units) s1.unit sent.written wrote);
    taken = TakesCodewords-push takes k0 k k' sent.past.codewords s1.codeword sent.taken took;
  }

  -- a packet was read, and its frame is written if there is one
  pub goes_on : (r r' w w' : Option (List ℕ)) (k k' : S) (s s1 s2 : Sender) → Sending takes t r0 r w0 w k0 k s → ReadsNext s s1 r r' (Ok true)
      → WritesNext takes s1 s2 k k' w w' → Sending takes t r0 r' w0 w' k0 k' s2
  goes_on r r' w w' k k' s s1 s2 h a (inl sent) =
      let made = sent.0 in
      record {
        sent = wrote_more r' w w' k k' s1 s2 made sent.1 sent.2 (read_more r r' w k s s1 a.0 h.sent);
        size = ap (λ (x : Stream). x.slicing.size) made.stream ∙ (a.0.size ∙ h.size);
        held = ap (λ (x : Stream). x.held) made.stream ∙ a.1;
        goes_on = ap (λ (x : Stream). x.slicing.closed) made.stream ∙ a.2;
        not_ready = made_open s1 s2 a.0.stops a.2 made;
      }
  goes_on r r' w w' k k' s s1 s2 h a (inr none) =
      let one : Sending takes t r0 r' w0 w k0 k s1 = record {
        sent = read_more r r' w k s s1 a.0 h.sent;
        size = a.0.size ∙ h.size;
        held = a.1;
        goes_on = a.2;
        not_ready = none.0;
      } in
      subst (λ x. Sending takes t r0 r' w0 w' k0 k' x) (sym none.1) (subst (λ x. Sending takes t r0 r' w0 w' k0 x s1) (sym none.2) (subst (λ x. Sending takes t r0 r' w0 x k0 k s1) (sym none.3) one))

  -- no packet was accepted meanwhile
  pub packets_kept : (w w' : Option (List ℕ)) (k k' : S) (s s1 : Sender) → WritesNext takes s s1 k k' w w' → s1.stream.packets ≡ s.stream.packets
  packets_kept w w' k k' s s1 (inl sent) = ap (λ (x : Stream). x.packets) sent.0.stream
  packets_kept w w' k k' s s1 (inr none) = ap (λ (x : Sender). x.stream.packets) none.1

  -- ---- how it ends

  units_of : (r w : Option (List ℕ)) (k : S) (s : Sender) → (h : Sent takes t r0 r w0 w k0 k s) → AreUnits t 1 0 h.past.fields h.past.units
  units_of r w k s h = subst (λ x. AreUnits x 1 0 h.past.fields h.past.units) h.is h.has.are_units

  codewords_of : (r w : Option (List ℕ)) (k : S) (s : Sender) → (h : Sent takes t r0 r w0 w k0 k s) → AreCodewords t.link 0 h.past.fields h.past.codewords
  codewords_of r w k s h = subst (λ x. AreCodewords x 0 h.past.fields h.past.codewords) (ap (λ x. x.link) h.is) h.has.are_codewords

  limit_of : (s : Sender) → transmitter_of s ≡ t → s.stream.limit ≡ t.limit
  limit_of s is = ap (λ x. x.limit) is

  -- with nothing begun
  pub stops : (r r' w : Option (List ℕ)) (k : S) (s : Sender) (MayFail : ℕ → Type 0) (rest : List ℕ) (result : Result Counts SendFault) → (h : Sent takes t r0 r w0 w k0 k s)
      → Consumes r0 r' (joined h.has.came.packets ++ rest) → EndsThere result r' → Outcome t.limit size MayFail h.has.came.packets rest h.past.fields result
      → (none : Begins t r' h.has.came.packets h.past.fields [] result) → EndsTaking takes fails t r' h.has.came.packets h.past.fields [] result none k k
      → RunsWith takes fails t MayFail r0 r' w0 w k0 k result
  stops r r' w k s MayFail rest result h read ends outcome none kept = record {
    run = record {
      packets = h.has.came.packets;
      rest = rest;
      fields = h.past.fields;
      units = h.past.units;
      begun = [];
      each_is_packet = h.has.came.each_is_packet;
      read = read;
      ends = ends;
      outcome = outcome;
      are_units = units_of r w k s h;
      begins = none;
      written = subst (Appends w0 w) (sym (append-nil (joined h.past.units))) h.written;
    };
    codewords = h.past.codewords;
    are_codewords = codewords_of r w k s h;
    sink = k;
    takes_all = h.taken;
    ends_taking = kept;
  }

  -- what was read is the packets, and what is held
  read_are : (r w : Option (List ℕ)) (k : S) (s : Sender) → (h : Sent takes t r0 r w0 w k0 k s) → Consumes r0 r (joined h.has.came.packets ++ s.stream.held)
  read_are r w k s h = subst (Consumes r0 r) h.has.came.bytes_are h.consumed

  full_here : (r w : Option (List ℕ)) (k : S) (s : Sender) → s.stream.slicing.size ≡ size → s.stream.slicing.closed ≡ false → (IsReady s.stream.slicing → ⊥) → (h : Sent takes t r0 r w0 w k0 k s)
      → h.past.fields ≡ full_fields size (stream_of h.has.came.packets)
  full_here r w k s same goes not_ready h =
      open_fields h.has.came.packets h.past.fields s.stream.slicing goes not_ready h.has.came.sliced h.has.came.are_cut ∙ ap (λ n. full_fields n (stream_of h.has.came.packets)) same

  -- by a refused packet, or a failed read
  refused : (r r' w : Option (List ℕ)) (k : S) (s s1 : Sender) (MayFail : ℕ → Type 0) (fault : SendFault) → Sending takes t r0 r w0 w k0 k s → s.stream.packets < t.limit
      → (fault ≡ Read → MayFail s.stream.packets) → ReadsNext s s1 r r' (Err fault) → RunsWith takes fails t MayFail r0 r' w0 w k0 k (Err fault)
  refused r r' w k s s1 MayFail NotWholePacket h few may a =
      let one = read_more r r' w k s s1 a.0.reading h.sent in
      let less : s1.stream.packets < s1.stream.limit = a.0.refuses.0 in
      let within : length one.has.came.packets < t.limit = omega (arith, less, limit_of s1 one.is, one.has.came.packet_count) in
      stops r' r' w k s1 MayFail s1.stream.held (Err NotWholePacket) one (read_are r' w k s1 one) a.1
      (within, a.0.refuses.1, a.0.refuses.2, full_here r' w k s1 (a.0.reading.size ∙ h.size) a.0.goes_on a.0.not_ready one) refl refl
  refused r r' w k s s1 MayFail (NoSync packet told) h few may a =
      let one = read_more r r' w k s s1 a.reading h.sent in
      let less : s1.stream.packets < s1.stream.limit = a.refuses.0 in
      let within : length one.has.came.packets < t.limit = omega (arith, less, limit_of s1 one.is, one.has.came.packet_count) in
      stops r' r' w k s1 MayFail s1.stream.held (Err (NoSync packet told)) one (read_are r' w k s1 one) tt
      (within, a.refuses.1, a.refuses.2, a.refuses.3 ∙ ap (λ n. n + 1) one.has.came.packet_count, full_here r' w k s1 (a.reading.size ∙ h.size) a.goes_on a.not_ready one, a.refuses.4) refl refl
  refused r r' w k s s1 MayFail Read h few may a =
      let sent = h.sent in
      let whole : sent.past.bytes ≡ joined sent.has.came.packets = sent.has.came.bytes_are ∙ (ap (λ l. joined sent.has.came.packets ++ l) h.held ∙ append-nil (joined sent.has.came.packets)) in
      let count : s.stream.packets ≡ length sent.has.came.packets = sent.has.came.packet_count in
      stops r r' w k s MayFail a.0 (Err Read) sent (Consumes-trans r0 r r' (joined sent.has.came.packets) a.0 (subst (Consumes r0 r) whole sent.consumed) a.2) tt
      (subst MayFail count (may refl), inl (omega (arith, few, count), a.1), full_here r w k s h.size h.goes_on h.not_ready sent) refl refl
  refused r r' w k s s1 MayFail Write h few may a = absurd a

  pub faulted : (r r' w : Option (List ℕ)) (k : S) (s s1 : Sender) (MayFail : ℕ → Type 0) (fault : SendFault) (result : Result Counts SendFault) → Sending takes t r0 r w0 w k0 k s → s.stream.packets < t.limit
      → (fault ≡ Read → MayFail s.stream.packets) → ReadsNext s s1 r r' (Err fault) → result ≡ Err fault → RunsWith takes fails t MayFail r0 r' w0 w k0 k result
  faulted r r' w k s s1 MayFail fault result h few may a is =
      subst (RunsWith takes fails t MayFail r0 r' w0 w k0 k) (sym is) (refused r r' w k s s1 MayFail fault h few may a)

  -- at its limit of packets
  pub full_now : (r w : Option (List ℕ)) (k : S) (s : Sender) (MayFail : ℕ → Type 0) → Sending takes t r0 r w0 w k0 k s → s.stream.packets ≡ t.limit → MayFail s.stream.packets
      → RunsWith takes fails t MayFail r0 r w0 w k0 k (Err Read)
  full_now r w k s MayFail h full may =
      let sent = h.sent in
      let count : s.stream.packets ≡ length sent.has.came.packets = sent.has.came.packet_count in
      stops r r w k s MayFail [] (Err Read) sent (subst (λ l. Consumes r0 r (joined sent.has.came.packets ++ l)) h.held (read_are r w k s sent)) tt
      (subst MayFail count may, inr (sym count ∙ full, refl), full_here r w k s h.size h.goes_on h.not_ready sent) refl refl

  -- at the end of the stream
  all_sent : (r w : Option (List ℕ)) (k : S) (s : Sender) (MayFail : ℕ → Type 0) (counts : Counts) → Sent takes t r0 r w0 w k0 k s → s.stream.slicing.size ≡ size → 0 < size → s.stream.held ≡ []
      → s.stream.slicing.closed ≡ true → (IsReady s.stream.slicing → ⊥) → IsAtEnd r → s.stream.packets < t.limit → counts ≡ record { packets = s.stream.packets; frames = s.stream.fields }
      → RunsWith takes fails t MayFail r0 r w0 w k0 k (Ok counts)
  all_sent r w k s MayFail counts h same some held over not_ready end few counts_are =
      let count : s.stream.packets ≡ length h.has.came.packets = h.has.came.packet_count in
      let fields : h.past.fields ≡ fields_of size (stream_of h.has.came.packets) =
      closed_fields h.has.came.packets h.past.fields s.stream.slicing over (omega (arith, same, some)) not_ready h.has.came.sliced h.has.came.are_cut ∙ ap (λ n. fields_of n (stream_of h.has.came.packets)) same in
      stops r r w k s MayFail [] (Ok counts) h (subst (λ l. Consumes r0 r (joined h.has.came.packets ++ l)) held (read_are r w k s h)) end
      (omega (arith, few, count), refl, fields, ap (λ x. x.packets) counts_are ∙ count, ap (λ x. x.frames) counts_are ∙ h.has.came.field_count) refl refl

  pub ends : (r r' w w' : Option (List ℕ)) (k k' : S) (s s1 s2 : Sender) (MayFail : ℕ → Type 0) (counts : Counts) → Sending takes t r0 r w0 w k0 k s → s.stream.packets < t.limit
      → ReadsNext s s1 r r' (Ok false) → WritesNext takes s1 s2 k k' w w' → counts ≡ record { packets = s2.stream.packets; frames = s2.stream.fields }
      → RunsWith takes fails t MayFail r0 r' w0 w' k0 k' (Ok counts)
  ends r r' w w' k k' s s1 s2 MayFail counts h few a (inl sent) counts_are =
      let made = sent.0 in
      let some : 0 < size = omega (arith, a.0.stops.large, a.0.size, h.size) in
      let not_full : s.stream.slicing.size ≤ length s.stream.slicing.waiting → ⊥ = λ k. h.not_ready (full_ready s.stream.slicing h.goes_on k) in
      let same_waiting : length s1.stream.slicing.waiting ≡ length s.stream.slicing.waiting = ap length a.5 in
      let room : length s1.stream.slicing.waiting < s1.stream.slicing.size = omega (arith, not_full, same_waiting, a.0.size) in
      all_sent r' w' k' s2 MayFail counts (wrote_more r' w w' k k' s1 s2 made sent.1 sent.2 (read_more r r' w k s s1 a.0 h.sent))
      (ap (λ (x : Stream). x.slicing.size) made.stream ∙ (a.0.size ∙ h.size)) some (ap (λ (x : Stream). x.held) made.stream ∙ a.1) (ap (λ (x : Stream). x.slicing.closed) made.stream ∙ a.2)
      (made_closed s1 s2 room a.2 made) a.3 (subst (λ n. n < t.limit) (sym (ap (λ (x : Stream). x.packets) made.stream ∙ a.4)) few) counts_are
  ends r r' w w' k k' s s1 s2 MayFail counts h few a (inr none) counts_are =
      let some : 0 < size = omega (arith, a.0.stops.large, a.0.size, h.size) in
      let counts_here : counts ≡ record { packets = s1.stream.packets; frames = s1.stream.fields } =
      counts_are ∙ ap (λ (x : Sender). record { packets = x.stream.packets; frames = x.stream.fields }) none.1 in
      let one : RunsWith takes fails t MayFail r0 r' w0 w k0 k (Ok counts) =
      all_sent r' w k s1 MayFail counts (read_more r r' w k s s1 a.0 h.sent) (a.0.size ∙ h.size) some a.1 a.2 none.0 a.3 (subst (λ n. n < t.limit) (sym a.4) few) counts_here in
      subst (λ x. RunsWith takes fails t MayFail r0 r' w0 w' k0 x (Ok counts)) (sym none.2) (subst (λ x. RunsWith takes fails t MayFail r0 r' w0 x k0 k (Ok counts)) (sym none.3) one)

  -- ---- a unit that could not be written

  -- nothing of it is written if the sink failed
  none_written : (w w' : Option (List ℕ)) (unit : List ℕ) → 0 < length unit → w' ≡ w → AppendsPart unit w w'
  none_written w w' unit some same = (0, some, subst (λ x. Appends w x []) (sym same) (Appends-nil w))

  module _ (r w w' : Option (List ℕ)) (k k' : S) (s s1 : Sender) (MayFail : ℕ → Type 0) (h : Sent takes t r0 r w0 w k0 k s) (made : MakesFrame s s1) (held : s.stream.held ≡ []) (within : s.stream.packets ≤ t.limit) where
    after : HasPast (with_frame (next_field s.stream.slicing) s1.codeword s1.unit h.past) s1
    after = made.past h.past h.has

    is_here : transmitter_of s1 ≡ t
    is_here = same_transmitter s s1 made.same ∙ h.is

    read_here : Consumes r0 r (joined after.came.packets ++ [])
    read_here = subst (λ l. Consumes r0 r (joined after.came.packets ++ l)) (ap (λ (x : Stream). x.held) made.stream ∙ held) (subst (Consumes r0 r) after.came.bytes_are h.consumed)

    is_next : IsUnitOf t.link (is_due t.dummy_every (length h.past.fields + 1)) (header_at t.link.setup.roll_off (length (joined h.past.fields)) (next_field s.stream.slicing)) (next_field s.stream.slicing) s1.unit
    is_next =
        let e : 0 + length (joined h.past.fields) ≡ length (joined h.past.fields) = omega arith in
        let n : 1 + length h.past.fields ≡ length h.past.fields + 1 = omega arith in
        subst (λ m. IsUnitOf t.link (is_due t.dummy_every (length h.past.fields + 1)) (header_at t.link.setup.roll_off m (next_field s.stream.slicing)) (next_field s.stream.slicing) s1.unit) e
        (subst (λ m. IsUnitOf t.link (is_due t.dummy_every m) (header_at t.link.setup.roll_off (0 + length (joined h.past.fields)) (next_field s.stream.slicing)) (next_field s.stream.slicing) s1.unit) n
        (AreUnits-last t 1 0 h.past.fields h.past.units (next_field s.stream.slicing) s1.unit (units_of r w k s h)
        (subst (λ x. AreUnits x 1 0 (h.past.fields ++ next_field s.stream.slicing ∷ []) (h.past.units ++ s1.unit ∷ [])) is_here after.are_units)))

    is_next_word : IsCodewordFor t.link.setup.mode t.link.rows (header_at t.link.setup.roll_off (length (joined h.past.fields)) (next_field s.stream.slicing)) (next_field s.stream.slicing) s1.codeword
    is_next_word =
        let e : 0 + length (joined h.past.fields) ≡ length (joined h.past.fields) = omega arith in
        subst (λ m. IsCodewordFor t.link.setup.mode t.link.rows (header_at t.link.setup.roll_off m (next_field s.stream.slicing)) (next_field s.stream.slicing) s1.codeword) e
        (AreCodewords-last t.link 0 h.past.fields h.past.codewords (next_field s.stream.slicing) s1.codeword (codewords_of r w k s h)
        (subst (λ x. AreCodewords x 0 (h.past.fields ++ next_field s.stream.slicing ∷ []) (h.past.codewords ++ s1.codeword ∷ [])) (ap (λ x. x.link) is_here) after.are_codewords))

    within_here : length after.came.packets ≤ t.limit
    within_here =
        let same : s1.stream.packets ≡ s.stream.packets = ap (λ (x : Stream). x.packets) made.stream in
        omega (arith, after.came.packet_count, same, within)

    Last : Type 0
    Last = (h.past.fields ++ next_field s.stream.slicing ∷ [] ≡ full_fields size (stream_of after.came.packets))
        ⊎ ((h.past.fields ++ next_field s.stream.slicing ∷ [] ≡ fields_of size (stream_of after.came.packets)) × IsAtEnd r)

    broken_off : Last → (part : AppendsPart s1.unit w w') → takes k k' s1.codeword ⊎ (fails k k' s1.codeword × (take part.0 s1.unit ≡ [])) → RunsWith takes fails t MayFail r0 r w0 w' k0 k' (Err Write)
    unfolding Last
    broken_off last part ended = record {
      run = record {
        packets = after.came.packets;
        rest = [];
        fields = h.past.fields;
        begun = take part.0 s1.unit;
        each_is_packet = after.came.each_is_packet;
        read = read_here;
        ends = tt;
        outcome = (within_here, refl);
        units = h.past.units;
        are_units = units_of r w k s h;
        begins = record { field = next_field s.stream.slicing; unit = s1.unit; is_last = last; is_unit = is_next; is_part = (part.0, part.1, refl) };
        written = Appends-trans w0 w w' (joined h.past.units) (take part.0 s1.unit) h.written part.2;
      };
      codewords = h.past.codewords;
      are_codewords = codewords_of r w k s h;
      sink = k;
      takes_all = h.taken;
      ends_taking = (s1.codeword, is_next_word, ended);
    }

    broken : Last → TakesOrFails takes fails s1.codeword s1.unit k k' w w' → RunsWith takes fails t MayFail r0 r w0 w' k0 k' (Err Write)
    unfolding none_written
    broken last (inl wrote) = broken_off last wrote.1 (inl wrote.0)
    broken last (inr failed) = broken_off last (none_written w w' s1.unit (some_unit t.link _ _ (next_field s.stream.slicing) s1.unit is_next) failed.1) (inr (failed.0, refl))

    -- the field was full
    pub breaks : s.stream.slicing.size ≡ size → s1.stream.slicing.closed ≡ false → (IsReady s1.stream.slicing → ⊥) → TakesOrFails takes fails s1.codeword s1.unit k k' w w' → RunsWith takes fails t MayFail r0 r w0 w' k0 k' (Err Write)
    unfolding Last
    breaks same goes not_ready failed =
        let here : s1.stream.slicing.size ≡ size = ap (λ (x : Stream). x.slicing.size) made.stream ∙ same in
        broken (inl (open_fields after.came.packets (h.past.fields ++ next_field s.stream.slicing ∷ []) s1.stream.slicing goes not_ready after.came.sliced after.came.are_cut
        ∙ ap (λ n. full_fields n (stream_of after.came.packets)) here)) failed

    -- or the last one
    pub breaks_at_end : s.stream.slicing.size ≡ size → 0 < size → s1.stream.slicing.closed ≡ true → (IsReady s1.stream.slicing → ⊥) → IsAtEnd r → TakesOrFails takes fails s1.codeword s1.unit k k' w w'
        → RunsWith takes fails t MayFail r0 r w0 w' k0 k' (Err Write)
    unfolding Last
    breaks_at_end same some over not_ready end failed =
        let here : s1.stream.slicing.size ≡ size = ap (λ (x : Stream). x.slicing.size) made.stream ∙ same in
        broken (inr (
          closed_fields after.came.packets (h.past.fields ++ next_field s.stream.slicing ∷ []) s1.stream.slicing over (omega (arith, here, some)) not_ready after.came.sliced after.came.are_cut
              ∙ ap (λ n. fields_of n (stream_of after.came.packets)) here,
          end,
        )) failed

  pub unwritten : (r r' w w' : Option (List ℕ)) (k k' : S) (s s1 s2 : Sender) (more : Bool) (MayFail : ℕ → Type 0) → Sending takes t r0 r w0 w k0 k s → s.stream.packets < t.limit
      → ReadsNext s s1 r r' (Ok more) → MakesFrame s1 s2 → TakesOrFails takes fails s2.codeword s2.unit k k' w w' → RunsWith takes fails t MayFail r0 r' w0 w' k0 k' (Err Write)
  unwritten r r' w w' k k' s s1 s2 true MayFail h few a made failed =
      let one = read_more r r' w k s s1 a.0 h.sent in
      let within : s1.stream.packets ≤ t.limit = omega (arith, a.3, few) in
      breaks r' w w' k k' s1 s2 MayFail one made a.1 within (a.0.size ∙ h.size) (ap (λ (x : Stream). x.slicing.closed) made.stream ∙ a.2) (made_open s1 s2 a.0.stops a.2 made) failed
  unwritten r r' w w' k k' s s1 s2 false MayFail h few a made failed =
      let some : 0 < size = omega (arith, a.0.stops.large, a.0.size, h.size) in
      let one = read_more r r' w k s s1 a.0 h.sent in
      let within : s1.stream.packets ≤ t.limit = omega (arith, a.4, few) in
      let not_full : s.stream.slicing.size ≤ length s.stream.slicing.waiting → ⊥ = λ k. h.not_ready (full_ready s.stream.slicing h.goes_on k) in
      let same_waiting : length s1.stream.slicing.waiting ≡ length s.stream.slicing.waiting = ap length a.5 in
      let room : length s1.stream.slicing.waiting < s1.stream.slicing.size = omega (arith, not_full, same_waiting, a.0.size) in
      breaks_at_end r' w w' k k' s1 s2 MayFail one made a.1 within (a.0.size ∙ h.size) some (ap (λ (x : Stream). x.slicing.closed) made.stream ∙ a.2) (made_closed s1 s2 room a.2 made) a.3 failed

-- ---- counts

-- if a sink counts nothing, the writer failed
pub writer_failed : (w w' : ℕ) → OneFailed w w' 0 0 → w' ≡ w + 1
writer_failed w w' (inl h) = h.0
writer_failed w w' (inr h) = absurd (cc)
