use Rattle.std.proofs.Common.{◌≡◌, ◌+◌, ◌*◌, ◌^◌, sym, ap₂, ap, subst, ◌∙◌, arith}
use Rattle.s2_equalize.specs.Bounds.{correlation_bound}
use Rattle.s2_equalize.specs.Complex.{IsWithin, plus, sum_from}
use Rattle.s2_equalize.specs.Gains.{correlation_at}
use Rattle.s2_equalize.proofs.Sizes.{origin_within, plus_within, sum_more, sum_none, within_more}
use Rattle.s2_equalize.proofs.gains.correlation.Goals as goal

pub loop-k-init : goal.loop-k-init
loop-k-init c = record { is = sum_none (correlation_at c.args.received.now c.args.sent.now) c.args.at; most = origin_within (correlation_bound * 0) }

pub plus-sum-requires : goal.plus-sum-requires
plus-sum-requires c = record {
  a = within_more (correlation_bound * c.loop-k.k) (2 ^ 60) c.loop-k.sum (omega arith) c.loop-k.invariant.most;
  b = within_more correlation_bound (2 ^ 60) c.correlation_of.result (omega arith) c.correlation_of.ensures.most;
}

pub loop-k-preserved : goal.loop-k-preserved
loop-k-preserved c =
    let k = c.loop-k.k in
    let before = c.loop-k.invariant in
    let more : correlation_bound * k + correlation_bound ≡ correlation_bound * (k + 1) = omega arith in
    record {
      is = c.plus-sum.ensures ∙ (ap₂ plus before.is c.correlation_of.ensures.is ∙ sym (sum_more (correlation_at c.args.received.now c.args.sent.now) c.args.at k));
      most = subst (λ n. IsWithin n c.plus-sum.result) more
          (subst (IsWithin (correlation_bound * k + correlation_bound)) (sym c.plus-sum.ensures)
          (plus_within (correlation_bound * k) correlation_bound c.loop-k.sum c.correlation_of.result before.most c.correlation_of.ensures.most));
    }

pub returns-clause-is : goal.returns-clause-is
returns-clause-is c =
    let end : c.loop-k.k ≡ c.args.n = omega arith in
    c.loop-k.invariant.is ∙ ap (sum_from (correlation_at c.args.received.now c.args.sent.now) c.args.at) end

pub returns-clause-most : goal.returns-clause-most
returns-clause-most c =
    let end : c.loop-k.k ≡ c.args.n = omega arith in
    subst (λ n. IsWithin (correlation_bound * n) c.loop-k.sum) end c.loop-k.invariant.most
