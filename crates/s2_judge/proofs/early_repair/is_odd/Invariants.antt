use Rattle.std.proofs.Common.{◌≡◌, take, count_by}
use Rattle.s2_bits.specs.Bits.{bit_at}
use Rattle.s2_judge.proofs.early_repair.is_odd.Given as goal

abbrev pub invariant-loop-place : goal.invariant-loop-place
invariant-loop-place l = l.ones ≡ count_by (bit_at l.word) (take l.place-index l.places)
