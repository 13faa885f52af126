-- The data stream of a list of packets (EN 302 307-1, 5.1.4 and 5.1.5), and its fields with their headers (5.1.6).
use Rattle.std.specs.Prelude.{◌≡◌, ℕ, zero, suc, ◌+◌, ◌-◌, ◌*◌, ◌/◌, ◌%◌, ◌<◌, ◌≤◌, Bool, true, false, List, [], ◌∷◌, ◌++◌, length, take, drop, slice_index, MatchBool}
use Rattle.std.specs.List.{flat_map}
use Rattle.s2_mode.specs.Mode.{Mode, kbch_of}
use Rattle.s2_bbframe.specs.Limits.{packet_bytes, sync}
use Rattle.s2_bbframe.specs.Crc.{crc8}
use Rattle.s2_bbframe.specs.declared.header.Header.{Header}

-- a packet has its 188 bytes, the first of them the sync byte
abbrev pub IsPacket : List ℕ → Type 0
IsPacket packet = (length packet ≡ packet_bytes) × (slice_index packet 0 ≡ sync)

-- a packet's body, then the body's CRC-8 in the next packet's sync place
abbrev pub closed_body : List ℕ → List ℕ
closed_body packet = drop 1 packet ++ crc8 (drop 1 packet) ∷ []

-- the first sync place
abbrev pub first_place : List (List ℕ) → List ℕ
first_place [] = []
first_place (packet ∷ packets) = 0 ∷ []

-- the data stream of packets: 00, then each packet's 187 bytes after its sync byte, and their CRC-8, which is in the
-- next packet's sync place
abbrev pub stream_of : List (List ℕ) → List ℕ
stream_of packets = first_place packets ++ flat_map closed_body packets

-- what the stream gains by one packet more
abbrev pub gained : Bool → List ℕ → List ℕ
gained true packet = closed_body packet
gained false packet = 0 ∷ closed_body packet

abbrev pub is_begun : List (List ℕ) → Bool
is_begun [] = false
is_begun (packet ∷ packets) = true

-- n consecutive cuts of a stream
abbrev pub cuts : ℕ → ℕ → List ℕ → List (List ℕ)
cuts size zero stream = []
cuts size (suc n) stream = take size stream ∷ cuts size n (drop size stream)

-- the fields of a stream that goes on: those that are full
abbrev pub full_fields : ℕ → List ℕ → List (List ℕ)
full_fields size stream = cuts size (length stream / size) stream

-- the fields of a stream that has ended: the last one is what remains
abbrev pub fields_of : ℕ → List ℕ → List (List ℕ)
fields_of size stream = cuts size ((length stream + (size - 1)) / size) stream

-- the distance in bytes from a stream byte to the next sync place
abbrev pub to_place : ℕ → ℕ
to_place at = (packet_bytes - at % packet_bytes) % packet_bytes

-- The header of the field at a stream byte. DFL is its length in bits, SYNCD the distance in bits to the next sync
-- place
abbrev pub header_at : ℕ → ℕ → List ℕ → Header
header_at roll_off at field = record { roll_off = roll_off; second = 0; dfl = 8 * length field; syncd = 8 * to_place at }

-- the bytes of a full data field: Kbch less the 80 bits of the header
abbrev pub field_bytes : Mode → ℕ
field_bytes m = (kbch_of m - 80) / 8

-- The next byte is here in its packet, and n bytes are left from it on. The last byte of a stream is a CRC-8, in a sync
-- place. Before the first packet there is none
abbrev pub EndsAtPlace : Bool → ℕ → ℕ → Type 0
EndsAtPlace true phase left = (phase + left) % packet_bytes ≡ 1
EndsAtPlace false phase left = (phase ≡ 0) × (left ≡ 0)

-- the slicer, as callers see it
pub record Slicing : Type 0 where
  -- the bytes of a full field
  pub size : ℕ
  -- whether a packet has come
  pub begun : Bool
  -- the place of the next byte in its packet
  pub phase : ℕ
  -- the stream's bytes that were not taken yet
  pub waiting : List ℕ
  -- whether no packet comes any more
  pub closed : Bool

-- a slicer that nothing has come to
abbrev pub starting : ℕ → Slicing
starting size = record { size = size; begun = false; phase = 0; waiting = []; closed = false }

-- the stream of the accepted packets is the fields that were taken, one after another, and then the bytes that the
-- slicer still holds
pub record Sliced (packets fields : List (List ℕ)) (s : Slicing) : Type 0 where
  pub begun : s.begun ≡ is_begun packets
  pub phase : s.phase ≡ length (flat_map (λ field. field) fields) % packet_bytes
  pub whole : stream_of packets ≡ flat_map (λ field. field) fields ++ s.waiting

-- the field that is taken next: a full one, or what remains
abbrev pub next_field : Slicing → List ℕ
next_field s = take s.size s.waiting

-- after any packets and fields the next field is taken, with the header of its place
abbrev pub TakesField : ℕ → (old new : Slicing) → Header → Type 0
TakesField roll_off old new header =
    (packets fields : List (List ℕ)) → Sliced packets fields old
    → Sliced packets (fields ++ next_field old ∷ []) new × (header ≡ header_at roll_off (length (flat_map (λ field. field) fields)) (next_field old))

-- the slicer with one packet more
abbrev pub after_packet : List ℕ → Slicing → Slicing
after_packet packet s = record { size = s.size; begun = true; phase = s.phase; waiting = s.waiting ++ gained s.begun packet; closed = s.closed }

-- the slicer without its next field
abbrev pub after_field : Slicing → Slicing
after_field s = record { size = s.size; begun = s.begun; phase = (s.phase + length (next_field s)) % packet_bytes; waiting = drop s.size s.waiting; closed = s.closed }

-- a field can be taken: a full one, or after the last packet what remains
abbrev pub IsReady : Slicing → Type 0
IsReady s = MatchBool s.closed (0 < length s.waiting) (s.size ≤ length s.waiting)
