use Rattle.std.proofs.Common.{◌≡◌, ◌*◌, drop}
use Rattle.std.specs.List.{flat_map}
use Rattle.s2_bits.specs.Bits.{bits_of_byte}
use Rattle.s2_bbframe.specs.Crc.{remainder, crc8}
use Rattle.s2_bbframe.proofs.crc.over_fours.Given as goal

-- what is left to read gives the whole remainder
abbrev pub invariant-loop-f : goal.invariant-loop-f
invariant-loop-f l = remainder l.crc (flat_map bits_of_byte (drop (4 * l.f) l.bytes)) ≡ crc8 l.bytes
