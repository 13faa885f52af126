-- The BBHEADER's ten bytes: MATYPE (2), UPL (2), DFL (2), SYNC, SYNCD (2) and CRC-8 (EN 302 307-1, 5.1.6).
use Rattle.std.specs.Prelude.{ℕ, ◌+◌, ◌-◌, ◌/◌, ◌%◌, ◌==◌, ◌&&◌, ◌||◌, nat_le, nat_lt, Bool, not, List, [], ◌∷◌, ◌++◌, take, slice_index, Result, Ok, Err, if◌then◌else◌}
use Rattle.std.specs.Int.{w16, from_be_bytes, to_be_bytes}
use Rattle.s2_mode.specs.Mode.{Mode, kbch_of}
use Rattle.s2_bbframe.specs.Limits.{no_syncd, packet_bits, sync}
use Rattle.s2_bbframe.specs.Crc.{crc8}
use Rattle.s2_bbframe.specs.declared.header.Header.{Header}
use Rattle.s2_bbframe.specs.declared.header.HeaderFault.{HeaderFault}
use Rattle.s2_bbframe.specs.declared.header.HeaderFault.TheVariants as faults

-- two bytes as a number, the first the higher
abbrev pub two_bytes : List ℕ → ℕ → ℕ
two_bytes bytes at = from_be_bytes w16 (slice_index bytes at ∷ slice_index bytes (at + 1) ∷ [])

-- what the fields say that differ from frame to frame: RO is the two lowest bits of MATYPE-1
abbrev pub header_of : List ℕ → Header
header_of bytes = record { roll_off = slice_index bytes 0 % 4; second = slice_index bytes 1; dfl = two_bytes bytes 4; syncd = two_bytes bytes 7 }

-- the last byte is the CRC-8 of the nine before it
abbrev pub is_whole : List ℕ → Bool
is_whole bytes = crc8 (take 9 bytes) == slice_index bytes 9

-- MATYPE-1 from the top: TS/GS 11, a transport stream; SIS/MIS 1, a single one; CCM/ACM 1, constant coding and
-- modulation; ISSYI 0; NPD 0
abbrev pub is_constant_transport : ℕ → Bool
is_constant_transport matype =
    (matype / 64 == 3) && ((matype / 32 % 2 == 1) && ((matype / 16 % 2 == 1) && ((matype / 8 % 2 == 0) && (matype / 4 % 2 == 0))))

-- such a stream, whose UPL and SYNC are those of a transport stream's packets
abbrev pub is_packet_stream : List ℕ → Bool
is_packet_stream bytes = is_constant_transport (slice_index bytes 0) && ((two_bytes bytes 2 == packet_bits) && (slice_index bytes 6 == sync))

-- DFL: whole bytes, which a frame holds. SYNCD: the first place is in the field and is its own packet's, or there is
-- none
abbrev pub has_valid_lengths : Mode → Header → Bool
has_valid_lengths m h =
    (h.dfl % 8 == 0)
    && (nat_le h.dfl (kbch_of m - 80)
    && ((h.dfl == 0) || ((h.syncd == no_syncd) || ((h.syncd % 8 == 0) && (nat_lt h.syncd packet_bits && nat_lt h.syncd h.dfl)))))

-- what a header's bytes say, or the first fault
unfoldable pub header_of_bytes : Mode → List ℕ → Result Header HeaderFault
header_of_bytes m bytes =
    if not (is_whole bytes)
    then Err faults.BadCrc
    else if not (is_packet_stream bytes)
    then Err faults.OtherStream
    else if not (has_valid_lengths m (header_of bytes))
    then Err faults.BadLengths
    else Ok (header_of bytes)

-- the nine bytes before the CRC-8: MATYPE-1 is F0 and RO, MATYPE-2 is `second`, UPL and SYNC are a packet's
abbrev pub signalling : Header → List ℕ
signalling h = (240 + h.roll_off) ∷ h.second ∷ (to_be_bytes w16 packet_bits ++ (to_be_bytes w16 h.dfl ++ (sync ∷ to_be_bytes w16 h.syncd)))

-- a header's ten bytes: the nine of `signalling` and their CRC-8
abbrev pub header_bytes : Header → List ℕ
header_bytes h = signalling h ++ (crc8 (signalling h) ∷ [])
