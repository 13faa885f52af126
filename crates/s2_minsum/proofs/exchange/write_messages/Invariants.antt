use Rattle.std.proofs.Common.{◌+◌, get_or}
use Rattle.s2_minsum.specs.Rows.{cell, sent16}
use Rattle.s2_minsum.proofs.Exchanges.{SentSoFar}
use Rattle.s2_minsum.proofs.exchange.write_messages.Given as goal

abbrev pub invariant-loop-e : goal.invariant-loop-e
invariant-loop-e g l = SentSoFar l.n l.count l.at g.row.W l.e (λ e k. sent16 (cell l.initial.inputs l.n e (l.at + k)) (get_or l.min1 k 0) (get_or l.low k 0) (get_or l.high k 0) (get_or l.signs k 0)) l.initial.inputs l.initial.messages l.inputs l.messages
