use Rattle.std.proofs.Common.{◌≡◌, ℕ, ◌<◌, slice_index}
use Rattle.s2_mode.specs.Symbols.{symbol_at}
use Rattle.s2_scramble.specs.Rotations.{rotated_back}
use Rattle.s2_scramble.proofs.rotate.rotate_each_back.Given as goal

abbrev pub invariant-loop-k : goal.invariant-loop-k
invariant-loop-k l = (j : ℕ) → j < l.k → symbol_at l.out j ≡ rotated_back (slice_index l.quarters j) (symbol_at l.symbols j)
