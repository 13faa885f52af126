-- A transmitter without input and output: the bytes of packets in, frames of symbols out (own).
use Rattle.std.specs.Prelude.{◌≡◌, ◌≢◌, ℕ, ◌+◌, ◌*◌, ◌<◌, ◌≤◌, ◌⊎◌, Bool, true, false, List, [], ◌∷◌, ◌++◌, length, take, All, slice_index, if◌then◌else◌, Result, Ok, Err, ⊤}
use Rattle.s2_bbframe.specs.Limits.{packet_bytes, sync}
use Rattle.s2_bbframe.specs.DataStream.{IsPacket, stream_of, full_fields, fields_of, field_bytes, Slicing, Sliced, IsReady, starting, next_field, after_field, header_at}
use Rattle.s2_bbframe.specs.declared.header.Header.{Header}
use Rattle.s2_link.specs.Link.{Link}
use Rattle.s2_send.specs.Hints.{size_told}
use Rattle.s2_send.specs.Limits.{max_packets}
use Rattle.s2_send.specs.Transmitter.{Transmitter}
use Rattle.s2_send.specs.Sending.{joined, AreCodewords, AreUnits}
use Rattle.s2_send.specs.declared.outcome.Counts.{Counts}
use Rattle.s2_send.specs.declared.outcome.SendFault.{SendFault}
use Rattle.s2_send.specs.declared.outcome.SendFault.TheVariants.{NotWholePacket, NoSync, Read, Write}

-- ---- the stream

-- the stream of a sender, as far as its bytes have come
pub record Stream : Type 0 where
  -- the bytes of its packets that are in no data field yet
  pub slicing : Slicing
  -- the bytes of the next packet that have come; all of them if it was refused
  pub held : List ℕ
  -- how many packets were accepted
  pub packets : ℕ
  -- how many data fields were taken
  pub fields : ℕ
  -- the most packets that are accepted
  pub limit : ℕ

-- no byte of the stream has come
abbrev pub at_first : ℕ → ℕ → Stream
at_first size limit = record { slicing = starting size; held = []; packets = 0; fields = 0; limit = limit }

-- the stream has ended
abbrev pub ended : Stream → Stream
ended s = record s { slicing = record s.slicing { closed = true } }

-- its next data field was taken
abbrev pub without_field : Stream → Stream
without_field s = record s { slicing = after_field s.slicing; fields = s.fields + 1 }

-- A stream goes no further than its next data field, its limit of packets, its end, and a packet that is refused. Without
-- its last packet the next field is not full
pub record StopsThere (s : Stream) : Type 0 where
  pub large : packet_bytes < s.slicing.size
  pub within : s.packets ≤ s.limit
  pub at_limit : s.packets ≡ s.limit → s.held ≡ []
  pub at_end : s.slicing.closed ≡ true → s.held ≡ []
  pub at_field : s.slicing.size ≤ length s.slicing.waiting → s.held ≡ []
  pub needed : length s.slicing.waiting < s.slicing.size + packet_bytes
  pub at_refusal : length s.held ≡ packet_bytes → slice_index s.held 0 ≢ sync
  pub part : length s.held ≤ packet_bytes

-- the counts of a stream are in range
pub record HasCounts (s : Stream) : Type 0 where
  pub most : s.limit ≤ max_packets
  -- a packet gives at most a byte more than it has, and a field has at least as many
  pub few : 189 * s.fields + length s.slicing.waiting ≤ 189 * s.packets
  pub none : s.slicing.begun ≡ false → length s.slicing.waiting ≡ 0

-- a stream between two calls
abbrev pub IsStream : Stream → Type 0
IsStream s = StopsThere s × HasCounts s

-- why the stream is refused as it stands
abbrev pub Refuses : Stream → SendFault → Type 0
Refuses s NotWholePacket = (s.packets < s.limit) × (0 < length s.held) × (length s.held < packet_bytes)
Refuses s (NoSync packet told) =
    (s.packets < s.limit) × (length s.held ≡ packet_bytes) × (slice_index s.held 0 ≢ sync) × (packet ≡ s.packets + 1) × (told ≡ size_told packet s.held)
Refuses s Read = s.packets ≡ s.limit
Refuses s Write = ⊥

-- the fields that were taken are full; or the stream has ended, and they are all its fields
abbrev pub AreCut : (packets fields : List (List ℕ)) → Slicing → Type 0
AreCut packets fields s =
    All (λ field. length field ≡ s.size) fields
    ⊎ ((s.closed ≡ true) × (s.waiting ≡ []) × (fields ≡ fields_of s.size (stream_of packets)))

-- These bytes of the stream have come, and these data fields were taken from it. The bytes are the packets that were
-- accepted, and those that are held
pub record Came (bytes : List ℕ) (fields : List (List ℕ)) (s : Stream) : Type 0 where
  pub packets : List (List ℕ)
  pub each_is_packet : All IsPacket packets
  pub bytes_are : bytes ≡ joined packets ++ s.held
  pub packet_count : s.packets ≡ length packets
  pub field_count : s.fields ≡ length fields
  pub sliced : Sliced packets fields s.slicing
  pub are_cut : AreCut packets fields s.slicing

-- whatever came before, now these bytes have come too
abbrev pub ComesOn : List ℕ → (old new : Stream) → Type 0
ComesOn more old new = (bytes : List ℕ) (fields : List (List ℕ)) → Came bytes fields old → Came (bytes ++ more) fields new

-- the link's size of a field, the limit and whether the stream has ended are unchanged
pub record SameStream (old new : Stream) : Type 0 where
  pub size : new.slicing.size ≡ old.slicing.size
  pub closed : new.slicing.closed ≡ old.slicing.closed
  pub limit : new.limit ≡ old.limit
  pub fields : new.fields ≡ old.fields

-- n bytes more came; while no packet was accepted, the data fields are unchanged
pub record Grows (old new : Stream) (n : ℕ) : Type 0 where
  pub packets : old.packets ≤ new.packets
  pub bytes : packet_bytes * new.packets + length new.held ≡ packet_bytes * old.packets + length old.held + n
  pub slicing : new.packets ≡ old.packets → new.slicing ≡ old.slicing

-- The first n of these bytes came. All of them came, or a data field is complete. The packet that they belong to is not
-- refused
pub record Takes (old new : Stream) (bytes : List ℕ) (n : ℕ) : Type 0 where
  pub few : n ≤ length bytes
  pub comes : ComesOn (take n bytes) old new
  pub grows : Grows old new n
  pub stops : n < length bytes → IsReady new.slicing
  pub good : 0 < n → length new.held < packet_bytes

-- The first of these bytes came, and then the stream is refused; no data field is complete. At the limit of packets a byte
-- is refused. A packet that is not whole is no fault yet
pub record TakesUpTo (old new : Stream) (bytes : List ℕ) (fault : SendFault) : Type 0 where
  pub n : ℕ
  pub few : n ≤ length bytes
  pub comes : ComesOn (take n bytes) old new
  pub grows : Grows old new n
  pub refuses : Refuses new fault
  pub beyond : fault ≡ Read → n < length bytes
  pub goes_on : fault ≢ NotWholePacket
  pub none : IsReady new.slicing → ⊥

-- some of these bytes came, at most to the end of a packet; or the stream is refused
abbrev pub TakesSome : (old new : Stream) → List ℕ → Result ℕ SendFault → Type 0
TakesSome old new bytes (Ok n) = (0 < n) × (n ≤ length bytes) × ComesOn (take n bytes) old new × Grows old new n × (length new.held < packet_bytes)
TakesSome old new bytes (Err fault) = TakesUpTo old new bytes fault

-- the result of a stream that is given bytes
abbrev pub PutsInto : (old new : Stream) → List ℕ → Result ℕ SendFault → Type 0
PutsInto old new bytes (Ok n) = Takes old new bytes n
PutsInto old new bytes (Err fault) = TakesUpTo old new bytes fault

-- the result of ending a stream: it has ended, unless it is refused
abbrev pub Closes : {T : Type 0} → (old new : Stream) → Result T SendFault → Type 0
Closes old new (Ok done) = (new ≡ ended old) × (new.held ≡ [])
Closes old new (Err fault) = (new ≡ old) × Refuses old fault

-- the next data field was taken, with its header: one more than those before
abbrev pub GivesField : ℕ → (old new : Stream) → Header → Type 0
GivesField roll_off old new header =
    (bytes : List ℕ) (fields : List (List ℕ)) → Came bytes fields old
    → Came bytes (fields ++ next_field old.slicing ∷ []) new × (header ≡ header_at roll_off (length (joined fields)) (next_field old.slicing))

-- ---- the sender

-- A sender: its link, the number of frames between dummy frames, and its stream. Of the frame that it made last it has the
-- codeword, and the bytes of the symbols, with those of the dummy frame after it if one is due
pub record Sender : Type 0 where
  pub link : Link
  pub dummy_every : ℕ
  pub stream : Stream
  pub codeword : List Bool
  pub unit : List ℕ

-- the transmitter that it is
abbrev pub transmitter_of : Sender → Transmitter
transmitter_of s = record { link = s.link; limit = s.stream.limit; dummy_every = s.dummy_every }

-- What a sender was given and gave since its stream began: the bytes, the data fields that were taken, and of each the
-- codeword and the unit
pub record Past : Type 0 where
  pub bytes : List ℕ
  pub fields : List (List ℕ)
  pub codewords : List (List Bool)
  pub units : List (List ℕ)

-- nothing yet
abbrev pub no_past : Past
no_past = record { bytes = []; fields = []; codewords = []; units = [] }

-- these bytes more
abbrev pub with_bytes : List ℕ → Past → Past
with_bytes bytes past = record past { bytes = past.bytes ++ bytes }

-- a data field more, with its codeword and its unit
abbrev pub with_frame : List ℕ → List Bool → List ℕ → Past → Past
with_frame field codeword unit past =
    record past { fields = past.fields ++ field ∷ []; codewords = past.codewords ++ codeword ∷ []; units = past.units ++ unit ∷ [] }

-- A sender has this past: its stream came of these bytes, and it gave the codewords and the units of the data fields that
-- were taken. A data field has the bytes of its mode's
pub record HasPast (past : Past) (s : Sender) : Type 0 where
  pub size : s.stream.slicing.size ≡ field_bytes s.link.setup.mode
  pub came : Came past.bytes past.fields s.stream
  pub are_units : AreUnits (transmitter_of s) 1 0 past.fields past.units
  pub are_codewords : AreCodewords s.link 0 past.fields past.codewords

-- nothing but the stream of a sender changed
pub record SameSender (old new : Sender) : Type 0 where
  pub link : new.link ≡ old.link
  pub dummy_every : new.dummy_every ≡ old.dummy_every
  pub limit : new.stream.limit ≡ old.stream.limit

-- a sender made the frame of its next data field: its past gains the field, the codeword and the unit
pub record MakesFrame (old new : Sender) : Type 0 where
  pub ready : IsReady old.stream.slicing
  pub stream : new.stream ≡ without_field old.stream
  pub past : (past : Past) → HasPast past old → HasPast (with_frame (next_field old.stream.slicing) new.codeword new.unit past) new
  pub same : SameSender old new

-- a sender whose stream was given bytes
pub record PutsBytes (old new : Sender) (bytes : List ℕ) (result : Result ℕ SendFault) : Type 0 where
  pub puts : PutsInto old.stream new.stream bytes result
  pub stream : SameStream old.stream new.stream
  pub same : new ≡ record old { stream = new.stream }

-- the past of a sender that was given bytes: those more that were taken
abbrev pub AddsBytes : (old new : Sender) → List ℕ → Result ℕ SendFault → Type 0
AddsBytes old new bytes (Ok n) = (past : Past) → HasPast past old → HasPast (with_bytes (take n bytes) past) new
AddsBytes old new bytes (Err fault) = (n : ℕ) × (n ≤ length bytes) × ((past : Past) → HasPast past old → HasPast (with_bytes (take n bytes) past) new)

-- ---- what comes of a stream

-- no packet is at the front of these bytes
abbrev pub HasNoPacket : List ℕ → Type 0
HasNoPacket left = (length left < packet_bytes) ⊎ (slice_index left 0 ≢ sync)

-- What comes of the bytes of a stream: of the packets at its front the units and the codewords of the full data fields, or
-- of all data fields if the stream has ended
pub record Gives (t : Transmitter) (has_ended : Bool) (past : Past) : Type 0 where
  pub packets : List (List ℕ)
  pub left : List ℕ
  pub fields : List (List ℕ)
  pub each_is_packet : All IsPacket packets
  pub bytes_are : past.bytes ≡ joined packets ++ left
  pub no_more : HasNoPacket left
  pub fields_are :
      fields ≡ (if has_ended then fields_of (field_bytes t.link.setup.mode) (stream_of packets) else full_fields (field_bytes t.link.setup.mode) (stream_of packets))
  pub are_units : AreUnits t 1 0 fields past.units
  pub are_codewords : AreCodewords t.link 0 fields past.codewords

-- how a stream whose data fields were all taken has ended, by the result of a run
abbrev pub EndsAs : Stream → Result Counts SendFault → Type 0
EndsAs s (Ok counts) = (s.slicing.closed ≡ true) × (counts.packets ≡ s.packets) × (counts.frames ≡ s.fields)
EndsAs s (Err fault) = (s.slicing.closed ≡ false) × Refuses s fault

-- whether nothing is behind the bytes that a run with this result has read
abbrev pub IsAll : List ℕ → Result Counts SendFault → Type 0
IsAll more (Err (NoSync packet told)) = ⊤
IsAll more result = more ≡ []
