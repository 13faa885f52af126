use Rattle.std.proofs.Common.{◌≡◌, ℕ, ◌<◌, length, get_or}
use Rattle.s2_check.specs.Moves.{no_move}
use Rattle.s2_settle.specs.Placing.{move_of}
use Rattle.s2_settle.proofs.moves.put_moves.Given as goal

abbrev pub invariant-loop-check : goal.invariant-loop-check
invariant-loop-check l = record {
  long : length l.moves ≡ length l.initial.moves;
  are : (j : ℕ) → j < l.check → get_or l.moves j no_move ≡ move_of l.matrix l.targets l.amounts j;
}
