-- What the packets, the setup and the address rows determine (EN 302 307-1, 5.1 to 5.5).
use Rattle.std.specs.Prelude.{◌≡◌, ◌≢◌, ℕ, ◌+◌, ◌≤◌, ◌⊎◌, ◌↔◌, ◌++◌, length, List, Option, Some, Result, Err}
use Rattle.s2_mode.specs.Mode.{Mode}
use Rattle.s2_bbframe.specs.DataStream.{field_bytes, IsReady}
use Rattle.s2_bbframe.specs.declared.header.Header.{Header}
use Rattle.s2_send.specs.declared.outcome.Counts.{Counts}
use Rattle.s2_send.specs.declared.outcome.SendFault.{SendFault}
use Rattle.s2_send.specs.declared.outcome.SendFault.TheVariants.{Read, Write}
use Rattle.s2_link.specs.Link.{Link, HasShape}
use Rattle.s2_send.specs.Frames.{IsFrameOf, IsUnitOf}
use Rattle.s2_send.specs.Transmitter.{Transmitter}
use Rattle.s2_send.specs.Sending.{joined, is_due, TransmitterRuns}
use Rattle.s2_send.specs.Sender.{Sender, Past, HasPast, StopsThere, Gives, EndsAs, IsAll, transmitter_of}

-- the links of a mode, with rows of its shape
abbrev pub IsLinkOf : Mode → Link → Type 0
IsLinkOf m link = (link.setup.mode ≡ m) × HasShape link.setup link.rows

-- a header and its data field have one frame
abbrev pub FrameLaw : Mode → Type 0
FrameLaw m =
    (link : Link) (header : Header) (field a b : List ℕ) → IsLinkOf m link → length field ≤ field_bytes m
    → IsFrameOf link header field a → IsFrameOf link header field b → a ≡ b

-- without dummy frames the unit of a header and its data field is their frame
abbrev pub NoDummiesLaw : Type 0
NoDummiesLaw =
    (link : Link) (number : ℕ) (header : Header) (field bytes : List ℕ) → IsUnitOf link (is_due 0 number) header field bytes ↔ IsFrameOf link header field bytes

-- the count of failed reads was incremented, or the limit of packets was reached
abbrev pub ReadFails : ℕ → ℕ → ℕ → ℕ → Type 0
ReadFails most old new packets = (new ≡ old + 1) ⊎ ((new ≡ old) × (packets ≡ most))

-- neither a read nor a write failed
abbrev pub NoneFailed : Result Counts SendFault → Type 0
NoneFailed result = (result ≢ Err Read) × (result ≢ Err Write)

-- two runs over the same bytes, in which neither a read nor a write failed, return the same, and writers that held the
-- same hold the same again
abbrev pub RunLaw : Mode → Type 0
RunLaw m =
    (t : Transmitter) (bytes held : List ℕ) (count_a count_b new_a new_b : ℕ) (reader_a reader_b writer_a writer_b : Option (List ℕ)) (a b : Result Counts SendFault)
    → IsLinkOf m t.link → NoneFailed a → NoneFailed b
    → TransmitterRuns t (ReadFails t.limit count_a new_a) (Some bytes) reader_a (Some held) writer_a a
    → TransmitterRuns t (ReadFails t.limit count_b new_b) (Some bytes) reader_b (Some held) writer_b b
    → (a ≡ b) × (writer_a ≡ writer_b)

-- a sender without a frame that can be taken has given all that comes of the bytes that it took
abbrev pub GivesLaw : Type 0
GivesLaw =
    (s : Sender) (past : Past) → StopsThere s.stream → HasPast past s → (IsReady s.stream.slicing → ⊥)
    → Gives (transmitter_of s) s.stream.slicing.closed past

-- A sender was given the bytes of a stream, its frames were all taken, and it ended or refused the stream. A run over these
-- bytes, in which neither a read nor a write failed, has the same result, and writes the units that the sender gave
abbrev pub AsRunLaw : Mode → Type 0
AsRunLaw m =
    (s : Sender) (past : Past) (more held : List ℕ) (count_old count_new : ℕ) (reader_new writer_new : Option (List ℕ)) (told result : Result Counts SendFault)
    → IsLinkOf m s.link → StopsThere s.stream → HasPast past s → (IsReady s.stream.slicing → ⊥) → EndsAs s.stream told → IsAll more told
    → NoneFailed told → NoneFailed result
    → TransmitterRuns (transmitter_of s) (ReadFails s.stream.limit count_old count_new) (Some (past.bytes ++ more)) reader_new (Some held) writer_new result
    → (result ≡ told) × (writer_new ≡ Some (held ++ joined past.units))
