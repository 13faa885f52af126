use Rattle.std.proofs.Common.{◌≡◌, ◌+◌, subst, arith}
use Rattle.s2_settle.specs.Exchange.{AreExchanged}
use Rattle.s2_settle.proofs.Writings.{exchanged_more}
use Rattle.s2_settle.proofs.exchange.exchange.Goals as goal

pub loop-lane-preserved : goal.loop-lane-preserved
loop-lane-preserved c =
    let at = c.loop-lane.lane in
    let new = c.exchange_some.new in
    exchanged_more c.args.step c.args.n c.args.count at (at + 1) c.args.inputs.now c.args.targets.now c.args.amounts.now c.loop-lane.inputs c.loop-lane.targets c.loop-lane.amounts new.inputs new.targets new.amounts (omega arith) (omega arith) c.loop-lane.invariant c.exchange_some.ensures

pub returns : goal.returns
returns c =
    let end : c.loop-lane.lane ≡ c.args.n = omega arith in
    subst (λ to. AreExchanged c.args.step c.args.n c.args.count 0 to c.args.inputs.now c.args.targets.now c.args.amounts.now c.loop-lane.inputs c.loop-lane.targets c.loop-lane.amounts) end c.loop-lane.invariant
