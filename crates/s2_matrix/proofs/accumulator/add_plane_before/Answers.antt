use Rattle.std.proofs.Common.{ℕ, ◌+◌, ◌-◌, ◌<◌, length, ap₂, ◌∙◌, arith}
use Rattle.s2_bits.specs.Bits.{xor, bit_at}
use Rattle.s2_bits.proofs.Sums.{xor_code}
use Rattle.s2_matrix.proofs.Lanes.{filled_none, filled_more}
use Rattle.s2_matrix.proofs.accumulator.add_plane_before.Goals as goal

pub loop-c-init : goal.loop-c-init
loop-c-init c = filled_none c.args.at (λ k. xor (bit_at c.args.planes.now (c.args.at + k)) (bit_at c.args.planes.now (c.args.at - c.args.group + k))) c.args.planes.now

pub loop-c-preserved : goal.loop-c-preserved
loop-c-preserved c =
    let planes = c.args.planes.now in
    let at = c.args.at in
    let group = c.args.group in
    let k = c.loop-c.c in
    let inv = c.loop-c.invariant in
    let f = λ (i : ℕ). xor (bit_at planes (at + i)) (bit_at planes (at - group + i)) in
    let low : k < group = omega (arith, c.loop-c-test.true) in
    let inside : at + k < length c.loop-c.planes = omega (arith, inv.long, c.requires.room, low) in
    let early : at - group + k < at = omega (arith, c.requires.before, low) in
    filled_more at k f planes c.loop-c.planes _ inside (xor_code (bit_at c.loop-c.planes (at + k)) (bit_at c.loop-c.planes (at - group + k)) ∙ ap₂ xor (inv.behind (at + k) (omega arith)) (inv.front (at - group + k) early)) inv

pub returns-clause-added : goal.returns-clause-added
returns-clause-added c = λ k low. c.loop-c.invariant.done k (omega (arith, low, c.loop-c-test.false))

pub returns-clause-front : goal.returns-clause-front
returns-clause-front c = c.loop-c.invariant.front

pub returns-clause-behind : goal.returns-clause-behind
returns-clause-behind c = λ k h. c.loop-c.invariant.behind k (omega (arith, h, c.loop-c.auto.c-end))
