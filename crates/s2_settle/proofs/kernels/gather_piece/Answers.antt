use Rattle.std.proofs.Common.{◌-◌, ◌*◌, length, arith}
use Rattle.s2_settle.specs.Rests.{given}
use Rattle.s2_bits.proofs.LaneSteps.{Rewritten-store, Rewritten-last, HasLanes-same}
use Rattle.s2_settle.proofs.kernels.gather_piece.Goals as goal

pub loop-block-preserved : goal.loop-block-preserved
loop-block-preserved c =
    let i = 16 * c.loop-block.block in
    Rewritten-store i 16 _ _ c.args.to.now c.loop-block.to c.given.result c.loop-block.invariant
    (HasLanes-same 16 _ _ c.given.result c.given.ensures (λ k lt j. given (c.load-in-loop-block.ensures.each k lt j) (c.load-in-loop-block-2.ensures.each k lt j) (c.load-in-loop-block-3.ensures.each k lt j) (c.all-es.ensures.each k lt j)))
    (omega arith) (omega arith)

pub returns : goal.returns
returns c =
    let n = length c.args.to.now in
    let all = Rewritten-last (16 * c.loop-block.block) 16 (n - 16) n _ c.args.to.now c.loop-block.to c.given-last.result c.loop-block.invariant
    (HasLanes-same 16 _ _ c.given-last.result c.given-last.ensures (λ k lt j. given (c.load.ensures.each k lt j) (c.load-2.ensures.each k lt j) (c.load-3.ensures.each k lt j) (c.all-es.ensures.each k lt j)))
    (omega arith) (omega arith) (omega arith) (omega arith) in
    λ k lt. all.done k (omega (arith, all.long, lt))
