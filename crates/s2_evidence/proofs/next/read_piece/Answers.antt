use Rattle.std.proofs.Common.{◌≡◌, ◌+◌, ◌-◌, ◌≤◌, length, take, drop, ap, sym, ◌∙◌, arith}
use Rattle.std.proofs.lemmas.List.{length-take-le, take-take}
use Rattle.s2_evidence.specs.Pieces.{IsPiece}
use Rattle.s2_evidence.proofs.PieceLemmas.{few, read_both, cut_at_end, takes_more, on_err}
use Rattle.s2_evidence.proofs.next.read_piece.Goals as goal

pub returns-then-head-lt-HEAD_BYTES-clause-no_more : goal.returns-then-head-lt-HEAD_BYTES-clause-no_more
returns-then-head-lt-HEAD_BYTES-clause-no_more g c =
    few _ (omega (arith, length-take-le c.in_ok-head.head c.read_on.new.buffer (omega (arith, c.in_ok-head.ensures.to, c.in_ok-head.ensures.room, c.requires.room)), c.in_ok-head.ensures.to))

pub returns-in_err-end-clause-part : goal.returns-in_err-end-clause-part
returns-in_err-end-clause-part g c = on_err _ _ (takes_more _ _ _ _ c.in_ok-head.ensures.bytes c.in_err-end.ensures.part)

pub returns-clause-bytes : goal.returns-clause-bytes
returns-clause-bytes g c =
    read_both _ _ _ c.in_ok-head.head c.in_ok-end.end c.read_on.new.buffer c.read_on-2.new.buffer
    (omega (arith, c.in_ok-head.ensures.to, c.if-head-lt-HEAD_BYTES.false)) c.in_ok-end.ensures.from c.in_ok-end.ensures.kept c.in_ok-head.ensures.bytes c.in_ok-end.ensures.bytes

pub returns-clause-no_more : goal.returns-clause-no_more
returns-clause-no_more g c =
    let n = c.in_ok-end.end in
    let two = c.read_on-2.new.buffer in
    let size = c.piece_size-size.result in
    let long : length (take n two) ≡ n = length-take-le n two (omega (arith, c.in_ok-end.ensures.to, c.in_ok-end.ensures.room, c.in_ok-head.ensures.room, c.piece_size-size.ensures.most, c.requires.room)) in
    let front : take 17 (take n two) ≡ take 17 c.read_on.new.buffer = take-take 17 n two c.in_ok-end.ensures.from ∙ c.in_ok-end.ensures.kept in
    (c.piece_size-size.ensures.piece (take n two) (size - n) front (omega (arith, long, c.in_ok-end.ensures.from)) (omega (arith, long, c.in_ok-end.ensures.to))).no_more

pub returns-clause-last : goal.returns-clause-last
returns-clause-last g c =
    let n = c.in_ok-end.end in
    let two = c.read_on-2.new.buffer in
    let size = c.piece_size-size.result in
    let long : length (take n two) ≡ n = length-take-le n two (omega (arith, c.in_ok-end.ensures.to, c.in_ok-end.ensures.room, c.in_ok-head.ensures.room, c.piece_size-size.ensures.most, c.requires.room)) in
    let front : take 17 (take n two) ≡ take 17 c.read_on.new.buffer = take-take 17 n two c.in_ok-end.ensures.from ∙ c.in_ok-end.ensures.kept in
    cut_at_end (take n two) n size _ c.in_ok-end.ensures.to c.in_ok-end.ensures.end
    (c.piece_size-size.ensures.piece (take n two) (size - n) front (omega (arith, long, c.in_ok-end.ensures.from)) (omega (arith, long, c.in_ok-end.ensures.to)))
