use Rattle.std.proofs.Common.{◌≡◌, length}
use Rattle.s2_rows.specs.Text.{tokens_of}
use Rattle.s2_judging.proofs.hard.is_ignored.Given as goal

abbrev pub invariant-loop-rest : goal.invariant-loop-rest
invariant-loop-rest l = tokens_of l.rest ≡ tokens_of l.line

abbrev pub decreases-loop-rest : goal.decreases-loop-rest
decreases-loop-rest l = length l.rest
