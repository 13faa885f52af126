use Rattle.std.proofs.Common.{arith}
use Rattle.s2_matrix.proofs.Lanes.{summed_one, summed_more}
use Rattle.s2_matrix.proofs.accumulator.add_planes_up.Goals as goal

pub loop-r-init : goal.loop-r-init
loop-r-init c = summed_one c.args.group c.args.planes.now

pub loop-r-preserved : goal.loop-r-preserved
loop-r-preserved c =
    let e = c.add_plane_before.ensures in
    summed_more c.args.group c.loop-r.r c.args.planes.now c.loop-r.planes c.add_plane_before.new.planes c.loop-r.auto.r e.long e.added e.front e.behind c.loop-r.invariant

pub returns-clause-sums : goal.returns-clause-sums
returns-clause-sums c = λ r k low lane. c.loop-r.invariant.done r k (omega (arith, low, c.loop-r-test.false)) lane
