-- The packets of parts of a data stream, each cut anywhere into data fields, with gaps between them (EN 302 307-1,
-- 5.1.4 to 5.1.6).
use Rattle.std.specs.Prelude.{◌≡◌, ℕ, ◌+◌, ◌*◌, ◌/◌, ◌≤◌, nat_lt, if◌then◌else◌, List, [], ◌∷◌, ◌++◌, All, Option, length, take, drop}
use Rattle.std.specs.List.{flat_map}
use Rattle.s2_bbframe.specs.Limits.{no_syncd, packet_bytes, body_bytes}
use Rattle.s2_bbframe.specs.DataStream.{IsPacket, stream_of, to_place}
use Rattle.s2_bbframe.specs.Joining.{Event, field, gap, joining, incomplete, closed_in}
use Rattle.s2_bbframe.specs.declared.header.Header.{Header}

-- SYNCD of the field at a stream byte: the distance in bits to the first sync place, or that there is none in the field
abbrev pub syncd_of : ℕ → List ℕ → ℕ
syncd_of at bytes = if nat_lt (to_place at) (length bytes) then 8 * to_place at else no_syncd

-- the header of any field at a stream byte
abbrev pub header_of_cut : ℕ → ℕ → List ℕ → Header
header_of_cut roll_off at bytes = record { roll_off = roll_off; second = 0; dfl = 8 * length bytes; syncd = syncd_of at bytes }

-- consecutive fields of a stream, from a byte of it on
pub record Part : Type 0 where
  pub at : ℕ
  pub fields : List (List ℕ)

-- the bytes of its fields
abbrev pub bytes_in : Part → List ℕ
bytes_in part = flat_map (λ bytes. bytes) part.fields

-- the stream has these fields at that byte
abbrev pub IsPartOf : List ℕ → Part → Type 0
IsPartOf stream part = (rest : List ℕ) × (drop part.at stream ≡ bytes_in part ++ rest)

-- fields that come with their headers
abbrev pub cut_events : ℕ → ℕ → List (List ℕ) → List Event
cut_events roll_off at [] = []
cut_events roll_off at (bytes ∷ fields) = field (header_of_cut roll_off at bytes) bytes ∷ cut_events roll_off (at + length bytes) fields

-- all parts, each after a gap
abbrev pub parted : ℕ → List Part → List Event
parted roll_off parts = flat_map (λ part. gap ∷ cut_events roll_off part.at part.fields) parts

-- A packet reaches from the sync place in front of its body to the next one, which holds its CRC-8. The number of
-- packets that begin before a stream byte:
abbrev pub begun_before : ℕ → ℕ
begun_before at = (at + body_bytes) / packet_bytes

-- the packets that are whole in a part: none of those that begin before it, and of the others those that are closed
-- in it
abbrev pub whole_in : List (List ℕ) → Part → List (List ℕ)
whole_in packets part = drop (begun_before part.at) (take (closed_in (part.at + length (bytes_in part))) packets)

-- Parts of a data stream, however cut into fields, give exactly the packets that are whole in one of them, part by
-- part. None is bad, and each gap leaves at most one incomplete
abbrev pub PartsLaw : Type 0
PartsLaw =
    (roll_off : ℕ) (held : Option (List ℕ)) (packets : List (List ℕ)) (parts : List Part)
    → All IsPacket packets → All (IsPartOf (stream_of packets)) parts
    → ((joining held (parted roll_off parts)).good ≡ flat_map (whole_in packets) parts)
    × ((joining held (parted roll_off parts)).bad ≡ 0)
    × (incomplete held (parted roll_off parts) ≤ length parts)

-- the packets that reach across a gap between these bytes: they begin before its end, and are not closed before its
-- start
abbrev pub across : ℕ → ℕ → List (List ℕ) → List (List ℕ)
across start end packets = drop (closed_in start) (take (begun_before end) packets)

-- A gap loses exactly these packets: those closed before its start and these are all that begin before its end
abbrev pub AcrossLaw : Type 0
AcrossLaw = (start end : ℕ) (packets : List (List ℕ)) → start ≤ end → take (closed_in start) packets ++ across start end packets ≡ take (begun_before end) packets
