use Rattle.std.proofs.Common.{arith}
use Rattle.s2_matrix.proofs.Layering.{pass_none, pass_one}
use Rattle.s2_matrix.proofs.layers.join_address.Goals as goal

pub returns-then-address-first : goal.returns-then-address-first
returns-then-address-first c =
    pass_none c.args.q c.args.place c.args.address c.args.first c.args.layers.now.items c.args.places.now.items c.requires.paired c.requires.below (λ r low e. omega (arith, e, c.if-address-first.true))

pub returns-then-layer-q : goal.returns-then-layer-q
returns-then-layer-q c =
    pass_none c.args.q c.args.place c.args.address c.args.first c.args.layers.now.items c.args.places.now.items c.requires.paired c.requires.below (λ r low e. omega (arith, e, low, c.if-layer-q.true))

pub returns : goal.returns
returns c =
    pass_one c.args.q c.args.place c.args.address c.args.first c.args.layers.now.items c.args.places.now.items c.join.new.checks.items c.join.new.bits.items c.requires.paired c.requires.below c.if-address-first.false c.if-layer-q.false c.in_ok-join.ensures.checks c.in_ok-join.ensures.bits
