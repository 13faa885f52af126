use Rattle.std.proofs.Common.{◌+◌}
use Rattle.s2_matrix.specs.Code.{code_of}
use Rattle.s2_matrix.specs.Edges.{AreEdges}
use Rattle.s2_matrix.proofs.build.join_parities.Given as goal

abbrev pub invariant-loop-check : goal.invariant-loop-check
invariant-loop-check l = AreEdges (code_of l.rows) (l.first + l.check) l.checks.items l.bits.items
