use Rattle.std.proofs.Common.{false, length, arith}
use Rattle.s2_bits.specs.Bits.{xor}
use Rattle.s2_bits.proofs.Pieces.{two_pieces}
use Rattle.s2_bits.proofs.rotations.add_rotated.Goals as goal

pub returns-clause-added : goal.returns-clause-added
returns-clause-added c =
    let bits = c.split_at.ensures in
    let row = c.split_at_mut-first.ensures in
    λ place lt. two_pieces xor false false (length c.args.bits.now) c.args.shift c.args.row.now _ _ c.xor_first.new.to c.xor_first-2.new.to c.args.bits.now _ _
    c.requires.rotation (omega (arith, c.xor_first.ensures.long, row.front_len)) row.front row.back bits.front bits.back
    (λ j l. c.xor_first.ensures.done j (omega (arith, row.front_len))) (λ j l. c.xor_first-2.ensures.done j (omega (arith, row.back_len)))
    place lt
