use Rattle.std.proofs.Common.{◌≡◌, ℕ, ◌<◌, slice_index}
use Rattle.s2_mode.specs.Symbols.{symbol_at}
use Rattle.s2_scramble.specs.Rotations.{rotated}
use Rattle.s2_scramble.proofs.rotate.rotate_each.Given as goal

abbrev pub invariant-loop-k : goal.invariant-loop-k
invariant-loop-k l = (j : ℕ) → j < l.k → symbol_at l.out j ≡ rotated (slice_index l.quarters j) (symbol_at l.symbols j)
