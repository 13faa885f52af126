use Rattle.std.proofs.Common.{◌-◌, ◌<◌, length, refl, arith}
use Rattle.s2_bits.specs.Bits.{bit_at}
use Rattle.s2_bits.proofs.Sums.{xor_code}
use Rattle.s2_matrix.proofs.Odds.{summed_first, summed_next}
use Rattle.s2_matrix.proofs.parity.add_neighbours.Goals as goal

pub loop-k-init : goal.loop-k-init
loop-k-init c = summed_first c.args.bits.now c.args.sums.now _ c.requires.some c.requires.same refl

pub loop-k-preserved : goal.loop-k-preserved
loop-k-preserved c =
    let bits = c.args.bits.now in
    let k = c.loop-k.k in
    let low : k < length bits = omega (arith, c.loop-k-test.true, c.requires.same, c.loop-k.invariant.long) in
    summed_next k bits c.loop-k.sums _ c.loop-k.auto.k low (xor_code (bit_at bits k) (bit_at bits (k - 1))) c.loop-k.invariant

pub returns-clause-first : goal.returns-clause-first
returns-clause-first c = c.loop-k.invariant.first

pub returns-clause-others : goal.returns-clause-others
returns-clause-others c = λ k low. c.loop-k.invariant.others k (omega (arith, low, c.loop-k-test.false, c.loop-k.invariant.long, c.requires.same))
