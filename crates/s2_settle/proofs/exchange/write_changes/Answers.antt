use Rattle.std.proofs.Common.{get_or, ap, arith}
use Rattle.s2_bits.proofs.LaneSteps.{HasLanes-same}
use Rattle.s2_settle.specs.Rests.{change}
use Rattle.s2_settle.proofs.Writings.{written_none, written_more, written_all}
use Rattle.s2_settle.proofs.exchange.write_changes.Goals as goal

pub loop-e-init : goal.loop-e-init
loop-e-init g c = written_none c.args.n c.args.count c.args.at g.row.W _ c.args.inputs.now

pub loop-e-preserved : goal.loop-e-preserved
loop-e-preserved g c =
    let e = c.loop-e.e in
    written_more c.args.n c.args.count c.args.at g.row.W e _ c.args.inputs.now c.loop-e.inputs c.change.result c.requires.lanes (omega arith) (omega arith)
    (HasLanes-same g.row.W _ _ c.change.result c.change.ensures (λ k lt. ap (change (get_or c.args.old_target k 0) (get_or c.args.old_amount k 0) (get_or c.args.target k 0) (get_or c.args.amount k 0)) (c.all.ensures.each k lt)))
    c.loop-e.invariant

pub returns : goal.returns
returns g c = written_all c.args.n c.args.count c.args.at g.row.W c.loop-e.e _ c.args.inputs.now c.loop-e.inputs (omega arith) c.loop-e.invariant
