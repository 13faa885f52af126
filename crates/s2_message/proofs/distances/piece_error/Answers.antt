use Rattle.std.proofs.Common.{◌≡◌, ◌+◌, ◌-◌, ◌<◌, length, length-take, length-drop, sym, ◌∙◌, arith}
use Rattle.s2_message.specs.Errors.{error_at}
use Rattle.s2_message.proofs.Sums.{sum_from_is}
use Rattle.s2_message.proofs.Pieces.{piece_at, piece_error}
use Rattle.s2_message.proofs.distances.piece_error.Goals as goal
use borrow.Rule.Slice.PartMut.{mid_of}

pub whole_error-requires : goal.whole_error-requires
whole_error-requires c = record {
  same = simp (length-take, length-drop) (omega arith);
  few = simp (length-take, length-drop) (omega arith);
}

pub returns-clause-is : goal.returns-clause-is
returns-clause-is c =
    let at = c.args.at in
    let len = c.args.len in
    let n = at + len - at in
    let received = c.args.received.now in
    let sent = c.args.sent.now in
    let long : length (mid_of at n received) ≡ len = simp (length-take, length-drop) (omega arith) in
    c.whole_error.ensures.is
    ∙ (piece_error at (length (mid_of at n received)) len received sent (mid_of at n received) (mid_of at n sent) long
    (λ k lt. let inside : k < n = omega arith in piece_at at n k received inside)
    (λ k lt. let inside : k < n = omega arith in piece_at at n k sent inside)
    ∙ sym (sum_from_is (error_at received sent) at len))

pub returns-clause-most : goal.returns-clause-most
returns-clause-most c =
    let at = c.args.at in
    let n = at + c.args.len - at in
    let long : length (mid_of at n c.args.received.now) ≡ c.args.len = simp (length-take, length-drop) (omega arith) in
    omega (arith, c.whole_error.ensures.most, long)
