use Rattle.s2_matrix.proofs.Edging.{gains_none}
use Rattle.s2_matrix.proofs.Layering.{shift_more}
use Rattle.s2_matrix.proofs.layers.join_shift.Goals as goal

pub loop-address-init : goal.loop-address-init
loop-address-init c = gains_none c.args.q c.args.place c.args.layers.now.items c.args.places.now.items c.requires.paired c.requires.below

pub loop-address-preserved : goal.loop-address-preserved
loop-address-preserved c =
    shift_more c.args.q c.args.place c.loop-address.address-index c.args.first c.args.row.now c.args.layers.now.items c.args.places.now.items c.loop-address.layers.items c.loop-address.places.items c.join_address.new.layers.items c.join_address.new.places.items c.loop-address-test.true c.requires.apart c.loop-address.invariant c.in_ok-join_address.ensures
