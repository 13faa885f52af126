use Rattle.std.proofs.Common.{◌≡◌, ◌*◌, take}
use Rattle.s2_bits.specs.Bits.{bits_of_bytes}
use Rattle.s2_bits.proofs.spelling.bits_into.Given as goal

-- the first bytes are spelt
abbrev pub invariant-loop-i : goal.invariant-loop-i
invariant-loop-i l = take (8 * l.i) l.bits ≡ bits_of_bytes (take l.i l.bytes)
