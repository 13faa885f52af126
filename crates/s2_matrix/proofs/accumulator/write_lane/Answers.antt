use Rattle.std.proofs.Common.{ℕ, suc, ◌+◌, ◌*◌, ◌<◌, ◌≤◌, length, arith}
use Rattle.std.proofs.Math.Nat.{mul-le-mul_right}
use Rattle.s2_bits.specs.Bits.{xor, bit_at}
use Rattle.s2_bits.proofs.Sums.{xor_code}
use Rattle.s2_matrix.proofs.Lanes.{filled_none, filled_more}
use Rattle.s2_matrix.proofs.accumulator.write_lane.Goals as goal

pub loop-r-init : goal.loop-r-init
loop-r-init c = filled_none (c.args.lane * c.args.q) (λ r. xor c.args.carry (bit_at c.args.planes.now (r * c.args.group + c.args.lane))) c.args.parities.now

pub loop-r-preserved : goal.loop-r-preserved
loop-r-preserved c =
    let planes = c.args.planes.now in
    let r = c.loop-r.r in
    let q = c.args.q in
    let f = λ (i : ℕ). xor c.args.carry (bit_at planes (i * c.args.group + c.args.lane)) in
    let next : suc c.args.lane ≤ c.args.group = omega (arith, c.requires.lane) in
    let far : suc c.args.lane * q ≤ c.args.group * q = mul-le-mul_right q next in
    let inside : c.args.lane * q + r < length c.loop-r.parities = omega (arith, far, c.loop-r.invariant.long, c.requires.size, c.loop-r-test.true) in
    filled_more (c.args.lane * q) r f c.args.parities.now c.loop-r.parities _ inside (xor_code c.args.carry (bit_at planes (r * c.args.group + c.args.lane))) c.loop-r.invariant

pub returns-clause-written : goal.returns-clause-written
returns-clause-written c = λ r low. c.loop-r.invariant.done r (omega (arith, low, c.loop-r-test.false))

pub returns-clause-front : goal.returns-clause-front
returns-clause-front c = c.loop-r.invariant.front
