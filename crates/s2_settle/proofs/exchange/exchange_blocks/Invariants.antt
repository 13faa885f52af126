use Rattle.std.proofs.Common.{◌*◌}
use Rattle.s2_settle.specs.Exchange.{AreExchanged}
use Rattle.s2_settle.proofs.exchange.exchange_blocks.Given as goal

abbrev pub invariant-loop-block : goal.invariant-loop-block
invariant-loop-block l = AreExchanged l.step l.n l.count 0 (16 * l.block) l.initial.inputs l.initial.targets l.initial.amounts l.inputs l.targets l.amounts
