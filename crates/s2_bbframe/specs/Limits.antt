-- The constants of packets and of their fields' headers (EN 302 307-1, 5.1.4 and 5.1.6).
use Rattle.std.specs.Prelude.{◌≡◌, ℕ, ◌+◌}
use Rattle.s2_bbframe.specs.declared.limits.TheConstants.{BODY_BYTES, MAX_FIELD_BYTES, NO_SYNCD, PACKET_BITS, PACKET_BYTES, PACKETS_ROOM, SYNC}

-- the bytes of a packet (ISO/IEC 13818-1, 2.4.3.2)
abbrev pub packet_bytes : ℕ
packet_bytes = 188

-- the bytes of a packet's body, which follows its sync byte (EN 302 307-1, 5.1.4)
abbrev pub body_bytes : ℕ
body_bytes = 187

-- the sync byte, with which a packet begins: 47 hexadecimal (ISO/IEC 13818-1, 2.4.3.3), SYNC of a header (EN 302
-- 307-1, 5.1.6)
abbrev pub sync : ℕ
sync = 71

-- the bits of a packet, UPL of a header (EN 302 307-1, 5.1.6)
abbrev pub packet_bits : ℕ
packet_bits = 1504

-- SYNCD of a header whose field has no place for a CRC-8 (EN 302 307-1, 5.1.6)
abbrev pub no_syncd : ℕ
no_syncd = 65535

-- the most bytes of a data field: its length in bits, DFL of a header, is a number of 16 bits (EN 302 307-1, 5.1.6)
abbrev pub max_field_bytes : ℕ
max_field_bytes = 8191

-- the most bytes of the packets that a data field of this length completes: its own, and 187 of a body before it
abbrev pub packets_room : ℕ → ℕ
packets_room bytes = body_bytes + bytes

-- the numbers that the code works with are these
pub record LimitsLaw : Type 0 where
  pub packet : PACKET_BYTES ≡ packet_bytes
  pub body : BODY_BYTES ≡ body_bytes
  pub first : SYNC ≡ sync
  pub bits : PACKET_BITS ≡ packet_bits
  pub none : NO_SYNCD ≡ no_syncd
  pub max_field : MAX_FIELD_BYTES ≡ max_field_bytes
  pub room : PACKETS_ROOM ≡ packets_room max_field_bytes
