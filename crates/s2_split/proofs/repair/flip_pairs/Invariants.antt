use Rattle.std.proofs.Common.{◌+◌, ◌&&◌}
use Rattle.s2_bits.specs.Bits.{xor, bit_at}
use Rattle.s2_matrix.proofs.Lanes.{Filled}
use Rattle.s2_split.proofs.repair.flip_pairs.Given as goal

abbrev pub invariant-loop-j : goal.invariant-loop-j
invariant-loop-j l = Filled l.start l.j (λ i. xor (bit_at l.initial.word (l.start + i)) (bit_at l.odd i && bit_at l.odd (i + 1))) l.initial.word l.word
