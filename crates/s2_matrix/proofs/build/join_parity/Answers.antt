use Rattle.s2_matrix.proofs.Edging.{one_edge, last_edge, two_edges}
use Rattle.s2_matrix.proofs.build.join_parity.Goals as goal

pub returns-in_ok-join-2 : goal.returns-in_ok-join-2
returns-in_ok-join-2 c =
    let cs = c.args.checks.now.items in
    let bs = c.args.bits.now.items in
    two_edges c.args.count c.args.bit c.args.check cs bs c.join.new.checks.items c.join.new.bits.items c.join-then-check-count.new.checks.items c.join-then-check-count.new.bits.items c.if-check-count.true (one_edge c.args.count c.args.bit c.args.check cs bs c.join.new.checks.items c.join.new.bits.items c.requires.check c.requires.paired c.requires.below c.in_ok-join.ensures.checks c.in_ok-join.ensures.bits) c.in_ok-join-2.ensures.checks c.in_ok-join-2.ensures.bits

pub returns-else-check-count : goal.returns-else-check-count
returns-else-check-count c =
    let cs = c.args.checks.now.items in
    let bs = c.args.bits.now.items in
    last_edge c.args.count c.args.bit c.args.check cs bs c.join.new.checks.items c.join.new.bits.items c.if-check-count.false (one_edge c.args.count c.args.bit c.args.check cs bs c.join.new.checks.items c.join.new.bits.items c.requires.check c.requires.paired c.requires.below c.in_ok-join.ensures.checks c.in_ok-join.ensures.bits)
