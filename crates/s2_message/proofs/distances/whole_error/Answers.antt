use Rattle.std.proofs.Common.{◌≡◌, ◌+◌, length, sym, ap, ◌∙◌, arith}
use Rattle.s2_message.specs.Errors.{error_at}
use Rattle.s2_message.proofs.Sums.{summed, summed_is, summed_none, summed_more}
use Rattle.s2_message.proofs.distances.whole_error.Goals as goal

pub loop-k-init : goal.loop-k-init
loop-k-init c = record { is = summed_none (error_at c.args.received.now c.args.sent.now); most = omega arith }

pub loop-k-preserved : goal.loop-k-preserved
loop-k-preserved c = record {
  is = (λ t. c.loop-k.invariant.is t + c.squared_distance-error.ensures.is t) ∙ sym (summed_more (error_at c.args.received.now c.args.sent.now) c.loop-k.k);
  most = omega arith;
}

pub returns-clause-is : goal.returns-clause-is
returns-clause-is c =
    let f = error_at c.args.received.now c.args.sent.now in
    let end : c.loop-k.k ≡ length c.args.received.now = omega arith in
    c.loop-k.invariant.is ∙ (ap (summed f) end ∙ sym (summed_is f (length c.args.received.now)))
