use Rattle.std.proofs.Common.{◌≡◌, ◌+◌, ◌-◌, ◌*◌, ◌^◌, length, sym, ap, subst, ◌∙◌, arith}
use Rattle.s2_equalize.specs.Bounds.{gain_bound, turn_bound, turn_sum_bound}
use Rattle.s2_equalize.specs.Complex.{IsWithin, complex_at, over, plus, sum_from}
use Rattle.s2_equalize.specs.Gains.{turn_at, turn_sum}
use Rattle.s2_equalize.proofs.Sizes.{origin_within, over_within, plus_within, sum_more_first, sum_none, times_conjugate_within, within_more}
use Rattle.s2_equalize.proofs.carrier.turn_sum.Goals as goal

pub loop-k-init : goal.loop-k-init
loop-k-init c = record { is = sum_none (turn_at c.args.gains.now) 0; most = origin_within (turn_bound * 0) }

pub returns-clause-is : goal.returns-clause-is
unfolding turn_sum
returns-clause-is c =
    let end : c.loop-k.k ≡ length c.args.gains.now - 1 = omega arith in
    c.over.ensures ∙ ap (over 128) (c.loop-k.invariant.is ∙ ap (sum_from (turn_at c.args.gains.now) 0) end)

pub plus-sum-requires : goal.plus-sum-requires
plus-sum-requires c =
    let k = c.loop-k.k in
    let gains = c.args.gains.now in
    let here = c.requires.most k (omega arith) in
    let next = c.requires.most (k + 1) (omega arith) in
    record {
      a = within_more (turn_bound * k) (2 ^ 60) c.loop-k.sum (omega arith) c.loop-k.invariant.most;
      b = subst (IsWithin (2 ^ 60)) (sym c.times_conjugate.ensures)
          (within_more (2 * (gain_bound * gain_bound)) (2 ^ 60) (turn_at gains k) (omega arith) (times_conjugate_within gain_bound gain_bound (complex_at gains (k + 1)) (complex_at gains k) next here));
    }

pub loop-k-preserved : goal.loop-k-preserved
loop-k-preserved c =
    let k = c.loop-k.k in
    let gains = c.args.gains.now in
    let before = c.loop-k.invariant in
    let here = c.requires.most k (omega arith) in
    let next = c.requires.most (k + 1) (omega arith) in
    let one = within_more (2 * (gain_bound * gain_bound)) (turn_bound) (turn_at gains k) (omega arith)
    (times_conjugate_within gain_bound gain_bound (complex_at gains (k + 1)) (complex_at gains k) next here) in
    let is = c.plus-sum.ensures ∙ ap (plus c.loop-k.sum) c.times_conjugate.ensures in
    let more : turn_bound * k + turn_bound ≡ turn_bound * (k + 1) = omega arith in
    record {
      is = is ∙ (ap (λ s. plus s (turn_at gains k)) before.is ∙ sym (sum_more_first (turn_at gains) k));
      most = subst (λ n. IsWithin n c.plus-sum.result) more (subst (IsWithin (turn_bound * k + turn_bound)) (sym is) (plus_within (turn_bound * k) (turn_bound) c.loop-k.sum (turn_at gains k) before.most one));
    }

pub over-requires : goal.over-requires
over-requires c = record {
  some = omega arith;
  few = omega arith;
  size = within_more (turn_bound * c.loop-k.k) (2 ^ 61) c.loop-k.sum (omega arith) c.loop-k.invariant.most;
}

pub returns-clause-most : goal.returns-clause-most
returns-clause-most c =
    let sum = c.loop-k.sum in
    subst (IsWithin turn_sum_bound) (sym c.over.ensures)
    (over_within 128 turn_sum_bound sum (omega arith) (within_more (turn_bound * c.loop-k.k) (turn_sum_bound * 128) sum (omega arith) c.loop-k.invariant.most))
