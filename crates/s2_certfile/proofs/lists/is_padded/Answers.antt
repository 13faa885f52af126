use Rattle.std.proofs.Common.{sym, arith, eq-eqb}
use Rattle.s2_certfile.proofs.Padding.{padded_yes, padded_no}
use Rattle.s2_certfile.proofs.lists.is_padded.Goals as goal

pub returns-then-bytes-i-eq1 : goal.returns-then-bytes-i-eq1
returns-then-bytes-i-eq1 c =
    sym (padded_no c.args.bytes.now c.args.n c.loop-i.i c.loop-i.auto.i c.loop-i-test.true (eq-eqb _ 1 c.if-bytes-i-eq1.true))

pub returns : goal.returns
returns c =
    sym (padded_yes c.args.bytes.now c.args.n (λ k low high. c.loop-i.invariant k low (omega (arith, c.loop-i-test.false))))
