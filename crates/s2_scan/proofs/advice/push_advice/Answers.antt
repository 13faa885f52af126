use Rattle.std.proofs.Common.{sym, ◌∙◌}
use Rattle.s2_scan.proofs.Gaps.{received_here, received_none}
use Rattle.s2_scan.proofs.Pieces.{moved}
use Rattle.s2_scan.proofs.advice.push_advice.Goals as goal

pub returns-then-is_received : goal.returns-then-is_received
returns-then-is_received c =
    moved c.push_command.result _ _ _ _ _ c.loop-k.invariant.same
    (received_here c.args.name.now c.args.number c.args.candidates.now c.loop-k.k c.loop-k-test.true (sym c.is_received.ensures ∙ c.if-is_received.true) c.loop-k.invariant.rest) c.push_command.ensures

pub returns : goal.returns
returns c = moved c.push.result _ _ _ _ _ c.loop-k.invariant.same (received_none c.args.name.now c.args.number c.args.candidates.now c.loop-k.k c.loop-k-test.false c.loop-k.invariant.rest) c.push.ensures
