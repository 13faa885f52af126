use Rattle.std.proofs.Common.{◌≡◌, ℕ, ◌<◌, ◌%◌}
use Rattle.s2_matrix.specs.Code.{ones_in, code_of}
use Rattle.s2_matrix.proofs.matrix.Matrix.odd_among_first.Given as goal

abbrev pub invariant-loop-check : goal.invariant-loop-check
invariant-loop-check l = (j : ℕ) → j < l.check → ones_in (code_of l.self) l.codeword j % 2 ≡ 0
