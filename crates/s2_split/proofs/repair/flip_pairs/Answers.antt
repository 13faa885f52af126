use Rattle.std.proofs.Common.{ℕ, ◌+◌, ◌<◌, ◌&&◌, length, ap, ◌∙◌, arith}
use Rattle.s2_bits.specs.Bits.{xor, bit_at}
use Rattle.s2_bits.proofs.Sums.{xor_code}
use Rattle.s2_matrix.proofs.Lanes.{filled_none, filled_more}
use Rattle.s2_split.proofs.repair.flip_pairs.Goals as goal

pub loop-j-init : goal.loop-j-init
loop-j-init c = filled_none c.args.start (λ i. xor (bit_at c.args.word.now (c.args.start + i)) (bit_at c.args.odd.now i && bit_at c.args.odd.now (i + 1))) c.args.word.now

pub loop-j-preserved : goal.loop-j-preserved
loop-j-preserved c =
    let word = c.args.word.now in
    let odd = c.args.odd.now in
    let start = c.args.start in
    let j = c.loop-j.j in
    let inv = c.loop-j.invariant in
    let f = λ (i : ℕ). xor (bit_at word (start + i)) (bit_at odd i && bit_at odd (i + 1)) in
    let inside : start + j < length c.loop-j.word = omega (arith, inv.long, c.requires.room, c.loop-j-test.true) in
    filled_more start j f word c.loop-j.word _ inside (xor_code (bit_at c.loop-j.word (start + j)) (bit_at odd j && bit_at odd (j + 1)) ∙ ap (λ b. xor b (bit_at odd j && bit_at odd (j + 1))) (inv.behind (start + j) (omega arith))) inv

pub returns-clause-flipped : goal.returns-clause-flipped
returns-clause-flipped c = λ j low. c.loop-j.invariant.done j (omega (arith, low, c.loop-j-test.false))

pub returns-clause-front : goal.returns-clause-front
returns-clause-front c = c.loop-j.invariant.front

pub returns-clause-behind : goal.returns-clause-behind
returns-clause-behind c = λ k far. c.loop-j.invariant.behind k (omega (arith, far, c.requires.some, c.loop-j.auto.j-end))
