use Rattle.std.proofs.Common.{◌+◌, ◌-◌, ◌*◌, length, ◌∙◌, arith}
use Rattle.s2_bits.specs.Lanes16.{plus16}
use Rattle.s2_bits.proofs.LaneSteps.{Rewritten-store, Rewritten-last, HasLanes-same}
use Rattle.s2_settle.proofs.kernels.sum_into.Goals as goal

pub loop-block-preserved : goal.loop-block-preserved
loop-block-preserved c =
    let i = 16 * c.loop-block.block in
    Rewritten-store i 16 _ _ c.args.to.now c.loop-block.to c.plus.result c.loop-block.invariant
    (HasLanes-same 16 _ _ c.plus.result c.plus.ensures (λ k lt j. plus16 ((c.load-in-loop-block.ensures.each k lt ∙ c.loop-block.invariant.left (i + k) (omega arith)) j) (c.load-in-loop-block-2.ensures.each k lt j)))
    (omega arith) (omega arith)

pub returns : goal.returns
returns c =
    let n = length c.args.to.now in
    let all = Rewritten-last (16 * c.loop-block.block) 16 (n - 16) n _ c.args.to.now c.loop-block.to c.plus-last.result c.loop-block.invariant
    (HasLanes-same 16 _ _ c.plus-last.result c.plus-last.ensures (λ k lt j. plus16 (c.load.ensures.each k lt j) (c.load-2.ensures.each k lt j)))
    (omega arith) (omega arith) (omega arith) (omega arith) in
    λ k lt. all.done k (omega (arith, all.long, lt))
