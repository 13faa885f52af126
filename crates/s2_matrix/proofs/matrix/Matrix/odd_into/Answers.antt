use Rattle.std.proofs.Common.{◌≡◌, length, length-drop, ap, ◌∙◌, arith, mul-le-mul_left}
use Rattle.s2_bits.specs.Bits.{xor, bit_at}
use Rattle.s2_mode.specs.Shape.{information_bits, check_count}
use Rattle.s2_matrix.proofs.Odds.{odd_by_neighbours}
use Rattle.s2_matrix.proofs.matrix.Matrix.odd_into.Goals as goal

pub add_neighbours-requires-clause-some : goal.add_neighbours-requires-clause-some
add_neighbours-requires-clause-some c =
    let shape = c.shape.ensures.valid in
    let more = mul-le-mul_left c.args.self.now.shape.group shape.q_some in
    omega (arith, more, shape.group_some, c.requires.odd)

pub returns-clause-are : goal.returns-clause-are
returns-clause-are c =
    let r = c.args.self.now in
    let word = c.args.codeword.now in
    let parities = c.split_at.result.1.now in
    let k = c.k.ensures.is ∙ ap information_bits c.shape.ensures.is in
    let count : length parities ≡ check_count r.shape = ap length c.split_at.ensures.back ∙ length-drop c.k.result word ∙ omega (arith, k, c.requires.codeword) in
    odd_by_neighbours r c.k.result word c.split_at.result.0.now parities c.xor_first.new.to c.add_neighbours.new.sums k c.requires.codeword c.split_at.ensures.front c.split_at.ensures.back
    (λ j low. c.xor_first.ensures.done j (omega (arith, low, count)) ∙ ap (λ b. xor b (bit_at parities j)) (c.parities_into.ensures.are j low))
    c.add_neighbours.ensures.first
    (λ j low. c.add_neighbours.ensures.others j (omega (arith, low, c.requires.odd)))
