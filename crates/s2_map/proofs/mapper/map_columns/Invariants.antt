use Rattle.std.proofs.Common.{◌≡◌, ℕ, ◌*◌, ◌<◌}
use Rattle.s2_mode.specs.Symbols.{symbol_at}
use Rattle.s2_bits.specs.Bits.{bit_at}
use Rattle.s2_map.specs.Lanes.{psk_point}
use Rattle.s2_map.proofs.mapper.map_columns.Given as goal

abbrev pub invariant-loop-block : goal.invariant-loop-block
invariant-loop-block l = (k : ℕ) → k < 8 * l.block → symbol_at l.payload k ≡ psk_point (bit_at l.first k) (bit_at l.second k) (bit_at l.third k)
