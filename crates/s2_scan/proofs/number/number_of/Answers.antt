use Rattle.std.proofs.Common.{sym, ◌∙◌}
use Rattle.s2_scan.proofs.Numbers.{number_here, number_none}
use Rattle.s2_scan.proofs.number.number_of.Goals as goal

pub returns-then-is_piloted : goal.returns-then-is_piloted
returns-then-is_piloted c =
    number_here c.args.bytes.now c.args.passes.now c.args.candidates.now c.loop-k.k c.number_by.result c.loop-k-test.true (sym c.is_piloted.ensures ∙ c.if-is_piloted.true) c.loop-k.invariant c.number_by.ensures

pub returns : goal.returns
returns c = number_none c.args.bytes.now c.args.passes.now c.args.candidates.now c.loop-k.k c.loop-k-test.false c.loop-k.invariant
