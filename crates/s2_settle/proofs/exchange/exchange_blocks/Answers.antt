use Rattle.std.proofs.Common.{◌≡◌, ◌+◌, ◌*◌, ◌/◌, subst, arith}
use Rattle.s2_settle.specs.Exchange.{AreExchanged}
use Rattle.s2_settle.proofs.Writings.{exchanged_none, exchanged_more}
use Rattle.s2_settle.proofs.exchange.exchange_blocks.Goals as goal

pub loop-block-init : goal.loop-block-init
loop-block-init c = exchanged_none c.args.step c.args.n c.args.count c.args.inputs.now c.args.targets.now c.args.amounts.now

pub loop-block-preserved : goal.loop-block-preserved
loop-block-preserved c =
    let at = 16 * c.loop-block.block in
    let next : at + 16 ≡ 16 * (c.loop-block.block + 1) = omega arith in
    let more = exchanged_more c.args.step c.args.n c.args.count at (at + 16) c.args.inputs.now c.args.targets.now c.args.amounts.now c.loop-block.inputs c.loop-block.targets c.loop-block.amounts c.exchange_some.new.inputs c.exchange_some.new.targets c.exchange_some.new.amounts (omega arith) (omega arith) c.loop-block.invariant c.exchange_some.ensures in
    subst (λ to. AreExchanged c.args.step c.args.n c.args.count 0 to c.args.inputs.now c.args.targets.now c.args.amounts.now c.exchange_some.new.inputs c.exchange_some.new.targets c.exchange_some.new.amounts) next more

pub returns-then-at-n : goal.returns-then-at-n
returns-then-at-n c =
    let at = c.args.n / 16 * 16 in
    let begun : 16 * c.loop-block.block ≡ at = omega arith in
    let end : at + 8 ≡ c.args.n / 8 * 8 = omega arith in
    let before = subst (λ to. AreExchanged c.args.step c.args.n c.args.count 0 to c.args.inputs.now c.args.targets.now c.args.amounts.now c.loop-block.inputs c.loop-block.targets c.loop-block.amounts) begun c.loop-block.invariant in
    let last = c.exchange_some-then-at-n in
    subst (λ to. AreExchanged c.args.step c.args.n c.args.count 0 to c.args.inputs.now c.args.targets.now c.args.amounts.now last.new.inputs last.new.targets last.new.amounts) end
    (exchanged_more c.args.step c.args.n c.args.count at (at + 8) c.args.inputs.now c.args.targets.now c.args.amounts.now c.loop-block.inputs c.loop-block.targets c.loop-block.amounts last.new.inputs last.new.targets last.new.amounts (omega arith) (omega arith) before last.ensures)
