use Rattle.std.proofs.Common.{◌≡◌, ◌+◌, ◌-◌, ◌<◌, length, length-take, length-drop, sym, subst, ◌∙◌, arith}
use Rattle.s2_message.specs.Correlation.{IsWithin, correlation_at}
use Rattle.s2_message.proofs.CorrelationSums.{summed_from_is}
use Rattle.s2_message.proofs.Pieces.{piece_at}
use Rattle.s2_message.proofs.CorrelationPlaces.{piece_sum}
use Rattle.s2_message.proofs.correlations.piece_correlation.Goals as goal
use borrow.Rule.Slice.PartMut.{mid_of}

pub whole_correlation-requires : goal.whole_correlation-requires
whole_correlation-requires c = record {
  same = simp (length-take, length-drop) (omega arith);
  few = simp (length-take, length-drop) (omega arith);
}

pub returns-clause-is : goal.returns-clause-is
returns-clause-is c =
    let at = c.args.at in
    let len = c.args.len in
    let n = at + len - at in
    let received = c.args.received.now in
    let sent = c.args.sent.now in
    let long : length (mid_of at n received) ≡ len = simp (length-take, length-drop) (omega arith) in
    c.whole_correlation.ensures.is
    ∙ (piece_sum at (length (mid_of at n received)) len received sent (mid_of at n received) (mid_of at n sent) long
    (λ k lt. let inside : k < n = omega arith in piece_at at n k received inside)
    (λ k lt. let inside : k < n = omega arith in piece_at at n k sent inside)
    ∙ sym (summed_from_is (correlation_at received sent) at len))

pub returns-clause-most : goal.returns-clause-most
returns-clause-most c =
    let at = c.args.at in
    let n = at + c.args.len - at in
    let long : length (mid_of at n c.args.received.now) ≡ c.args.len = simp (length-take, length-drop) (omega arith) in
    subst (λ m. IsWithin m c.whole_correlation.result) long c.whole_correlation.ensures.most
