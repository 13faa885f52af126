use Rattle.s2_matrix.specs.Code.{code_of}
use Rattle.s2_matrix.specs.Edges.{AreEdges}
use Rattle.s2_matrix.proofs.build.join_info.Given as goal

abbrev pub invariant-loop-bit : goal.invariant-loop-bit
invariant-loop-bit l = AreEdges (code_of l.rows) l.bit l.checks.items l.bits.items
