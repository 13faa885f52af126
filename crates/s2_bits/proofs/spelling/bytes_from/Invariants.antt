use Rattle.std.proofs.Common.{◌≡◌, ℕ, ◌+◌, ◌*◌, ◌<◌, get_or}
use Rattle.s2_bits.specs.Bits.{byte_at}
use Rattle.s2_bits.proofs.spelling.bytes_from.Given as goal

-- the first bytes are written
abbrev pub invariant-loop-i : goal.invariant-loop-i
invariant-loop-i l = (k : ℕ) → k < l.i → get_or l.bytes k 0 ≡ byte_at l.bits (8 * (l.first + k))
