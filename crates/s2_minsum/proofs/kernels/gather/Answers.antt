use Rattle.std.proofs.Common.{length, length-append, arith}
use Rattle.s2_bits.specs.Lanes16.{minus16}
use Rattle.s2_bits.proofs.Pieces.{two_pieces}
use Rattle.s2_minsum.proofs.kernels.gather.Goals as goal

pub returns : goal.returns
returns c =
    let row = c.split_at.ensures in
    let inputs = c.split_at_mut-first.ensures in
    let messages = c.split_at-2.ensures in
    λ k lt. two_pieces (λ m r. minus16 r m) 0 0 (length c.args.row.now) c.args.shift c.args.messages.now _ _ c.subtract.new.to c.subtract-2.new.to c.args.row.now _ _
    c.requires.rotation (omega (arith, c.subtract.auto.to, inputs.front_len)) messages.front messages.back row.front row.back
    (λ j l. c.subtract.ensures j (omega (arith, c.subtract.auto.to, inputs.front_len))) (λ j l. c.subtract-2.ensures j (omega (arith, c.subtract-2.auto.to, inputs.back_len)))
    k (omega (arith, length-append c.subtract.new.to c.subtract-2.new.to, c.subtract.auto.to, c.subtract-2.auto.to, inputs.front_len, inputs.back_len))
