use Rattle.std.proofs.Common.{◌≡◌, ℕ, ◌+◌, ◌*◌, ◌<◌}
use Rattle.s2_mode.specs.Symbols.{symbol_at}
use Rattle.s2_bits.specs.Bits.{bit_at, number}
use Rattle.s2_map.specs.Mapping.{qpsk_points}
use Rattle.s2_map.proofs.mapper.map_pairs.Given as goal

abbrev pub invariant-loop-s : goal.invariant-loop-s
invariant-loop-s l = (k : ℕ) → k < l.s → symbol_at l.payload k ≡ symbol_at qpsk_points (2 * number (bit_at l.bits (2 * k)) + number (bit_at l.bits (2 * k + 1)))
