use Rattle.s2_settle.specs.Exchange.{AreExchanged}
use Rattle.s2_settle.proofs.exchange.exchange.Given as goal

abbrev pub invariant-loop-lane : goal.invariant-loop-lane
invariant-loop-lane l = AreExchanged l.step l.n l.count 0 l.lane l.fn.inputs l.fn.targets l.fn.amounts l.inputs l.targets l.amounts
