use Rattle.std.proofs.Common.{◌≡◌, ℕ, ◌+◌, ◌-◌, ◌*◌, ◌<◌, inl, inr, refl, sym, ap, ◌∙◌, arith}
use Rattle.std.proofs.lemmas.Bool.{cases_lt}
use Rattle.s2_bits.specs.Bits.{xor, bit_at}
use Rattle.s2_matrix.specs.Transpose.{accumulated}
use Rattle.s2_matrix.proofs.Blocks.{accumulated_at, carry_next}
use Rattle.s2_matrix.proofs.accumulator.write_lanes.Goals as goal

pub loop-lane-init : goal.loop-lane-init
loop-lane-init c = record {
  long = refl;
  carry = refl;
  done = λ k h. absurd (omega arith);
}

pub loop-lane-preserved : goal.loop-lane-preserved
loop-lane-preserved c =
    let inv = c.loop-lane.invariant in
    let lane = c.loop-lane.lane in
    let q = c.args.q in
    let group = c.args.group in
    let planes = c.args.planes.now in
    let new = c.write_lane.new.parities in
    let written = λ (r : ℕ) (h : r < q). c.write_lane.ensures.written r h ∙ ap (λ b. xor b (bit_at planes (r * group + lane))) inv.carry ∙ sym (accumulated_at group q planes lane r h) in
    let low : q - 1 < q = omega (arith, c.requires.some) in
    let at : lane * q + q - 1 ≡ lane * q + (q - 1) = omega (arith, c.requires.some) in
    record {
      long = c.write_lane.ensures.long ∙ inv.long;
      carry = ap (bit_at new) at ∙ written (q - 1) low ∙ carry_next group q planes lane c.requires.some;
      done = λ k h. elim (cases_lt k (lane * q)) [
        | inl less ↦ c.write_lane.ensures.front k less ∙ inv.done k less
        | inr ge ↦ (
            let r = k - lane * q in
            let place : lane * q + r ≡ k = omega arith in
            let short : r < q = omega arith in
            ap (bit_at new) (sym place) ∙ written r short ∙ ap (accumulated group q planes) place
            )
      ];
    }

pub returns-clause-sums : goal.returns-clause-sums
returns-clause-sums c =
    let last : c.args.group ≡ c.loop-lane.lane = omega (arith, c.loop-lane-test.false, c.loop-lane.auto.lane-end) in
    let all : c.args.group * c.args.q ≡ c.loop-lane.lane * c.args.q = ap (λ k. k * c.args.q) last in
    λ j h. c.loop-lane.invariant.done j (omega (arith, h, all))
