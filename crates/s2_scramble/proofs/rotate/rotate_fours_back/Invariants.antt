use Rattle.std.proofs.Common.{◌≡◌, ℕ, ◌*◌, ◌<◌, slice_index}
use Rattle.s2_mode.specs.Symbols.{symbol_at}
use Rattle.s2_scramble.specs.Rotations.{rotated_back}
use Rattle.s2_scramble.proofs.rotate.rotate_fours_back.Given as goal

abbrev pub invariant-loop-block : goal.invariant-loop-block
invariant-loop-block l = (j : ℕ) → j < 4 * l.block → symbol_at l.out j ≡ rotated_back (slice_index l.quarters j) (symbol_at l.symbols j)
