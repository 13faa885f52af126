use Rattle.std.proofs.Common.{◌≡◌, ◌+◌, ◌^◌, ◌≤◌, length, sym, ap, subst, ◌∙◌, arith}
use Rattle.s2_message.specs.Correlation.{IsWithin, correlation_at, plus}
use Rattle.s2_message.proofs.CorrelationSums.{summed, summed_is, summed_none, summed_more, none_within, plus_within, within_more}
use Rattle.s2_message.proofs.correlations.whole_correlation.Goals as goal

pub loop-k-init : goal.loop-k-init
loop-k-init c = record { is = summed_none (correlation_at c.args.received.now c.args.sent.now); most = none_within }

pub plus-sum-requires : goal.plus-sum-requires
plus-sum-requires c = record {
  a = within_more c.loop-k.k (2 ^ 20) c.loop-k.sum (omega arith) c.loop-k.invariant.most;
  b = within_more 1 (2 ^ 20) c.correlation.result (omega arith) c.correlation.ensures.most;
}

pub loop-k-preserved : goal.loop-k-preserved
loop-k-preserved c = record {
  is = c.plus-sum.ensures ∙ (λ t. plus (c.loop-k.invariant.is t) (c.correlation.ensures.is t)) ∙ sym (summed_more (correlation_at c.args.received.now c.args.sent.now) c.loop-k.k);
  most = subst (IsWithin (c.loop-k.k + 1)) (sym c.plus-sum.ensures) (plus_within c.loop-k.k 1 c.loop-k.sum c.correlation.result c.loop-k.invariant.most c.correlation.ensures.most);
}

pub returns-clause-is : goal.returns-clause-is
returns-clause-is c =
    let f = correlation_at c.args.received.now c.args.sent.now in
    let end : c.loop-k.k ≡ length c.args.received.now = omega arith in
    c.loop-k.invariant.is ∙ (ap (summed f) end ∙ sym (summed_is f (length c.args.received.now)))

pub returns-clause-most : goal.returns-clause-most
returns-clause-most c =
    let end : c.loop-k.k ≡ length c.args.received.now = omega arith in
    subst (λ n. IsWithin n c.loop-k.sum) end c.loop-k.invariant.most
