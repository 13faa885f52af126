use Rattle.std.proofs.Common.{◌≡◌, take}
use Rattle.std.proofs.lemmas.Result.{err_from_is_err_and}
use Rattle.s2_evidence.proofs.PieceLemmas.{none_left, no_bytes, refuses, read_faults}
use Rattle.s2_evidence.proofs.next.next_certificate.Goals as goal

pub returns-in_err-size-clause-takes : goal.returns-in_err-size-clause-takes
returns-in_err-size-clause-takes g c =
    let p = err_from_is_err_and c.from_residual.result c.from_residual.ensures.1 in
    rw (p.1, p.2) (read_faults _ _ c.in_err-size.field-0.0 c.in_err-size.ensures.part c.in_err-size.ensures.told)

pub returns-then-size-eq0-clause-takes : goal.returns-then-size-eq0-clause-takes
returns-then-size-eq0-clause-takes g c =
    (none_left c.read_piece.new.buffer c.in_ok-size.size _ c.if-size-eq0.true c.in_ok-size.ensures.last, no_bytes _ _ c.read_piece.new.buffer c.in_ok-size.size c.if-size-eq0.true c.in_ok-size.ensures.bytes)

pub returns-in_err-certificate-clause-takes : goal.returns-in_err-certificate-clause-takes
returns-in_err-certificate-clause-takes g c =
    let p = err_from_is_err_and c.from_residual-in_err-certificate.result c.from_residual-in_err-certificate.ensures.1 in
    rw (p.1, p.2) (refuses _ _ (take c.in_ok-size.size c.read_piece.new.buffer) c.in_err-certificate.field-0.0 c.in_ok-size.ensures.bytes c.in_ok-size.ensures.no_more c.in_ok-size.ensures.last
    c.in_err-certificate.ensures.says (λ e. c.in_err-certificate.ensures.write (search (c.in_err-certificate.is, e))))
