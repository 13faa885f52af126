use Rattle.std.proofs.Common.{get_or}
use Rattle.s2_settle.specs.Rests.{change}
use Rattle.s2_settle.proofs.Writings.{WrittenSoFar}
use Rattle.s2_settle.proofs.exchange.write_changes.Given as goal

abbrev pub invariant-loop-e : goal.invariant-loop-e
invariant-loop-e g l = WrittenSoFar l.n l.count l.at g.row.W l.e (λ e k. change (get_or l.old_target k 0) (get_or l.old_amount k 0) (get_or l.target k 0) (get_or l.amount k 0) e) l.initial.inputs l.inputs
