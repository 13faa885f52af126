use Rattle.s2_matrix.proofs.Edging.{gains_none, address_edge}
use Rattle.s2_matrix.proofs.build.join_row.Goals as goal

pub loop-address-init : goal.loop-address-init
loop-address-init c = gains_none c.args.count c.args.bit c.args.checks.now.items c.args.bits.now.items c.requires.paired c.requires.below

pub loop-address-preserved : goal.loop-address-preserved
loop-address-preserved c =
    address_edge c.args.count c.args.bit c.loop-address.address-index c.args.turn c.args.row.now c.args.checks.now.items c.args.bits.now.items c.loop-address.checks.items c.loop-address.bits.items c.join.new.checks.items c.join.new.bits.items c.loop-address-test.true c.requires.some c.requires.addresses c.loop-address.invariant c.in_ok-join.ensures.checks c.in_ok-join.ensures.bits
