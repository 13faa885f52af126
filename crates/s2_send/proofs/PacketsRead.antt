-- What the bytes of a run determine: its packets, and what is left behind them.
use Rattle.std.proofs.Common.{◌≡◌, ◌≢◌, ℕ, ◌+◌, ◌<◌, ◌≤◌, ◌⊎◌, inl, inr, List, [], ◌∷◌, ◌++◌, All, Option, Some, None, Result, Ok, Err, length, take, drop, refl, sym, ap, ◌∙◌, arith, append_assoc, append-nil, length-append}
use Rattle.std.specs.Prelude.{slice_index}
use Rattle.std.proofs.lemmas.List.{take_at, drop_at, get_or_append_left}
use Rattle.std.proofs.lemmas.List.Elements.{All-head, All-tail}
use Rattle.std.specs.Io.KnownBytes.{Consumes}
use Rattle.s2_bbframe.specs.DataStream.{IsPacket, stream_of, full_fields, fields_of}
use Rattle.s2_send.specs.declared.outcome.Counts.{Counts}
use Rattle.s2_send.specs.declared.outcome.SendFault.{SendFault}
use Rattle.s2_send.specs.declared.outcome.SendFault.TheVariants.{NotWholePacket, NoSync, Read, Write}
use Rattle.s2_send.specs.Hints.{size_told}
use Rattle.s2_send.specs.Transmitter.{Transmitter}
use Rattle.s2_send.specs.Sending.{joined, Outcome, EndsThere, Begins}
use Rattle.s2_send.specs.Laws.{NoneFailed}

-- ---- the packets at the front of some bytes

-- no packet stands at the front
abbrev pub Stops : List ℕ → Type 0
Stops left = (length left < 188) ⊎ (slice_index left 0 ≢ 71)

not_stopped : (p more left : List ℕ) → IsPacket p → left ≡ p ++ more → Stops left → ⊥
not_stopped p more left packet e (inl short) =
    let long : length left ≡ length p + length more = ap length e ∙ length-append p more in
    absurd (omega (arith, long, packet.0, short))
not_stopped p more left packet e (inr other) =
    let some : 0 < length p = omega (arith, packet.0) in
    other (ap (λ l. slice_index l 0) e ∙ (get_or_append_left p more 0 0 some ∙ packet.1))

-- the packets end there
pub same_packets : (ps qs : List (List ℕ)) (left right : List ℕ) → All IsPacket ps → All IsPacket qs → Stops left → Stops right
    → joined ps ++ left ≡ joined qs ++ right → (ps ≡ qs) × (left ≡ right)
same_packets [] [] left right all_ps all_qs stop_left stop_right e = (refl, e)
same_packets [] (q ∷ qs) left right all_ps all_qs stop_left stop_right e =
    absurd (not_stopped q (joined qs ++ right) left (All-head IsPacket q qs all_qs) (e ∙ append_assoc q (joined qs) right) stop_left)
same_packets (p ∷ ps) [] left right all_ps all_qs stop_left stop_right e =
    absurd (not_stopped p (joined ps ++ left) right (All-head IsPacket p ps all_ps) (sym e ∙ append_assoc p (joined ps) left) stop_right)
same_packets (p ∷ ps) (q ∷ qs) left right all_ps all_qs stop_left stop_right e =
    let bytes : p ++ (joined ps ++ left) ≡ q ++ (joined qs ++ right) = sym (append_assoc p (joined ps) left) ∙ (e ∙ append_assoc q (joined qs) right) in
    let long_p : length p ≡ 188 = (All-head IsPacket p ps all_ps).0 in
    let long_q : length q ≡ 188 = (All-head IsPacket q qs all_qs).0 in
    let first : p ≡ q = sym (take_at p (joined ps ++ left) 188 long_p) ∙ (ap (take 188) bytes ∙ take_at q (joined qs ++ right) 188 long_q) in
    let rest : joined ps ++ left ≡ joined qs ++ right = sym (drop_at p (joined ps ++ left) 188 long_p) ∙ (ap (drop 188) bytes ∙ drop_at q (joined qs ++ right) 188 long_q) in
    let more = same_packets ps qs left right (All-tail IsPacket p ps all_ps) (All-tail IsPacket q qs all_qs) stop_left stop_right rest in
    ((λ t. first t ∷ more.0 t), more.1)

-- ---- what a run read

-- what is left behind the packets, by the answer
abbrev pub Leaves : ℕ → List ℕ → Result Counts SendFault → Type 0
Leaves packets left (Ok counts) = (left ≡ []) × (counts.packets ≡ packets)
Leaves packets left (Err NotWholePacket) = (0 < length left) × (length left < 188)
Leaves packets left (Err (NoSync packet told)) = (188 ≤ length left) × (slice_index left 0 ≢ 71) × (packet ≡ packets + 1) × (told ≡ size_told packet (take 188 left))
Leaves packets left (Err Read) = ⊥
Leaves packets left (Err Write) = ⊥

pub leaves_stop : (packets : ℕ) (left : List ℕ) (result : Result Counts SendFault) → Leaves packets left result → Stops left
leaves_stop packets left (Ok counts) h = inl (omega (arith, ap length h.0))
leaves_stop packets left (Err NotWholePacket) h = inl h.1
leaves_stop packets left (Err (NoSync packet told)) h = inr h.1
leaves_stop packets left (Err Read) h = absurd h
leaves_stop packets left (Err Write) h = absurd h

-- the fields whose units are written, by the answer
abbrev pub fields_by : ℕ → List ℕ → Result Counts SendFault → List (List ℕ)
fields_by size stream (Ok counts) = fields_of size stream
fields_by size stream (Err fault) = full_fields size stream

pub record Reading (size : ℕ) (bytes : List ℕ) (packets fields : List (List ℕ)) (result : Result Counts SendFault) : Type 0 where
  pub left : List ℕ
  pub bytes_are : bytes ≡ joined packets ++ left
  pub leaves : Leaves (length packets) left result
  pub fields_are : fields ≡ fields_by size (stream_of packets) result
  pub frame_count : (counts : Counts) → result ≡ Ok counts → counts.frames ≡ length fields

pub reading : (most size : ℕ) (MayFail : ℕ → Type 0) (bytes : List ℕ) (reader_new : Option (List ℕ)) (packets : List (List ℕ)) (rest : List ℕ) (fields : List (List ℕ)) (result : Result Counts SendFault)
    → NoneFailed result → Consumes (Some bytes) reader_new (joined packets ++ rest) → EndsThere result reader_new → Outcome most size MayFail packets rest fields result
    → Reading size bytes packets fields result
reading most size MayFail bytes None packets rest fields result none read ends outcome = absurd read
reading most size MayFail bytes (Some beyond) packets rest fields (Ok counts) none read ends outcome = record {
  left = rest ++ beyond;
  bytes_are = read ∙ append_assoc (joined packets) rest beyond;
  leaves = ((λ t. outcome.1 t ++ ends t), outcome.3);
  fields_are = outcome.2;
  frame_count = λ other e. (let same : other ≡ counts = cc in ap (λ x. x.frames) same) ∙ outcome.4;
}
reading most size MayFail bytes (Some beyond) packets rest fields (Err NotWholePacket) none read ends outcome =
    let whole : rest ++ beyond ≡ rest = ap (λ l. rest ++ l) ends ∙ append-nil rest in
    record {
      left = rest;
      bytes_are = read ∙ (append_assoc (joined packets) rest beyond ∙ ap (λ l. joined packets ++ l) whole);
      leaves = (outcome.1, outcome.2);
      fields_are = outcome.3;
      frame_count = λ other e. absurd (cc);
    }
reading most size MayFail bytes (Some beyond) packets rest fields (Err (NoSync packet told)) none read ends outcome =
    let some : 0 < length rest = omega (arith, outcome.1) in
    record {
      left = rest ++ beyond;
      bytes_are = read ∙ append_assoc (joined packets) rest beyond;
      leaves = (omega (arith, outcome.1, length-append rest beyond), λ e. outcome.2 (sym (get_or_append_left rest beyond 0 0 some) ∙ e), outcome.3, outcome.5 ∙ ap (size_told packet) (sym (take_at rest beyond 188 outcome.1)));
      fields_are = outcome.4;
      frame_count = λ other e. absurd (cc);
    }
reading most size MayFail bytes (Some beyond) packets rest fields (Err Read) none read ends outcome = absurd (none.0 refl)
reading most size MayFail bytes (Some beyond) packets rest fields (Err Write) none read ends outcome = absurd (none.1 refl)

-- no unit is broken off
pub none_begun : (t : Transmitter) (reader_new : Option (List ℕ)) (packets fields : List (List ℕ)) (begun : List ℕ) (result : Result Counts SendFault)
    → NoneFailed result → Begins t reader_new packets fields begun result → begun ≡ []
none_begun t reader_new packets fields begun (Ok counts) none h = h
none_begun t reader_new packets fields begun (Err NotWholePacket) none h = h
none_begun t reader_new packets fields begun (Err (NoSync packet told)) none h = h
none_begun t reader_new packets fields begun (Err Read) none h = h
none_begun t reader_new packets fields begun (Err Write) none h = absurd (none.1 refl)
