use Rattle.std.proofs.Common.{◌≡◌, drop}
use Rattle.std.specs.List.{flat_map}
use Rattle.s2_bits.specs.Bits.{bits_of_byte}
use Rattle.s2_bbframe.specs.Crc.{remainder}
use Rattle.s2_bbframe.proofs.crc.over_bytes.Given as goal

-- what is left to read gives the whole remainder
abbrev pub invariant-loop-byte : goal.invariant-loop-byte
invariant-loop-byte l = remainder l.crc (flat_map bits_of_byte (drop l.byte-index l.bytes)) ≡ remainder l.start (flat_map bits_of_byte l.bytes)
