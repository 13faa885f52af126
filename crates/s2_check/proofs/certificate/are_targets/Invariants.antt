use Rattle.std.proofs.Common.{ℕ, ◌<◌, length, get_or}
use Rattle.s2_matrix.specs.Code.{code_of, members}
use Rattle.s2_check.specs.Moves.{no_move}
use Rattle.s2_check.proofs.certificate.are_targets.Given as goal

abbrev pub invariant-loop-check : goal.invariant-loop-check
invariant-loop-check l =
    (j : ℕ) → j < l.check → (get_or l.moves j no_move).place < length (members (code_of l.matrix) j)
