use Rattle.std.proofs.Common.{◌≡◌, take}
use Rattle.s2_bits.specs.Bits.{bits_of_bytes}
use Rattle.s2_bits.proofs.spelling.bits_of.Given as goal

-- the first bytes are spelt
abbrev pub invariant-loop-byte : goal.invariant-loop-byte
invariant-loop-byte l = l.bits.items ≡ bits_of_bytes (take l.byte-index l.bytes)
