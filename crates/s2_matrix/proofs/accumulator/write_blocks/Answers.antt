use Rattle.std.proofs.Common.{◌≡◌, ◌+◌, ◌-◌, ◌*◌, ◌<◌, ◌≤◌, inl, inr, refl, sym, ap, subst, ◌∙◌, arith}
use Rattle.std.proofs.Math.Nat.{mul-le-mul_right}
use Rattle.std.proofs.lemmas.Bool.{cases_lt, cases_eq}
use Rattle.s2_bits.specs.Bits.{bit_at}
use Rattle.s2_matrix.specs.Transpose.{carry_at, accumulated}
use Rattle.s2_matrix.proofs.Blocks.{carry_next, by_lanes}
use Rattle.s2_matrix.proofs.accumulator.write_blocks.Goals as goal

pub loop-block-init : goal.loop-block-init
loop-block-init c = record {
  long = refl;
  done = λ lane r h. absurd (omega (arith, h));
}

pub bit_before-carry-requires : goal.bit_before-carry-requires
bit_before-carry-requires c =
    let lane = c.min-lane.result in
    let q = c.args.q in
    let far : lane * q ≤ c.args.group * q = mul-le-mul_right q (omega (arith, c.min-lane.ensures, c.requires.lanes)) in
    omega (arith, far, c.requires.size, c.loop-block.invariant.long)

pub write_eight_lanes-requires-clause-first : goal.write_eight_lanes-requires-clause-first
write_eight_lanes-requires-clause-first c =
    let lane = c.min-lane.result in
    let q = c.args.q in
    let group = c.args.group in
    let planes = c.args.planes.now in
    let parities = c.loop-block.parities in
    let seen = c.bit_before-carry.ensures in
    let some : 1 ≤ q = omega (arith, c.requires.planes) in
    elim (cases_eq lane 0) [
      | inl none ↦ (
          let begin : lane * q ≡ 0 = ap (λ k. k * q) none ∙ omega arith in
          seen.first begin ∙ ap (carry_at group q planes) (sym none)
          )
      | inr more ↦ (
          let p = lane - 1 in
          let next : lane ≡ p + 1 = omega (arith, more) in
          let whole : lane * q ≡ (p + 1) * q = ap (λ k. k * q) next in
          let at : lane * q - 1 ≡ p * q + (q - 1) = omega (arith, whole, some) in
          let done : p < 8 * c.loop-block.block = omega (arith, next, c.min-lane.ensures) in
          let inside : p < group = omega (arith, next, c.min-lane.ensures, c.requires.lanes) in
          seen.others (omega (arith, whole, some))
          ∙ ap (bit_at parities) at
          ∙ c.loop-block.invariant.done p (q - 1) done inside (omega (arith, some))
          ∙ carry_next group q planes p some
          ∙ ap (carry_at group q planes) (sym next)
          )
    ]

pub loop-block-preserved : goal.loop-block-preserved
loop-block-preserved c =
    let first = c.min-lane.result in
    let q = c.args.q in
    let f = accumulated c.args.group q c.args.planes.now in
    let new = c.write_eight_lanes.new.parities in
    let inv = c.loop-block.invariant in
    let e = c.write_eight_lanes.ensures in
    record {
      long = e.long ∙ inv.long;
      done = λ lane r early inside low. elim (cases_lt lane first) [
        | inl before ↦ e.kept (lane * q + r) (inv.done lane r (omega (arith, before, c.min-lane.ensures)) inside low)
        | inr after ↦ (
            let l = lane - first in
            let place : lane ≡ first + l = omega (arith, after) in
            let whole : lane * q ≡ (first + l) * q = ap (λ k. k * q) place in
            let index : first * q + l * q + r ≡ lane * q + r = omega (arith, whole) in
            let short : l < 8 = omega (arith, early, inside, after, c.min-lane.ensures, c.requires.lanes) in
            subst (λ k. bit_at new k ≡ f k) index (e.here l r short low)
            )
      ];
    }

pub returns-clause-sums : goal.returns-clause-sums
returns-clause-sums c =
    let group = c.args.group in
    let q = c.args.q in
    let planes = c.args.planes.now in
    let parities = c.loop-block.parities in
    by_lanes group q (λ j. bit_at parities j ≡ accumulated group q planes j) (omega (arith, c.requires.planes))
    (λ lane r inside low. c.loop-block.invariant.done lane r (omega (arith, inside, c.loop-block-test.false, c.div_ceil-block-end.ensures)) inside low)
