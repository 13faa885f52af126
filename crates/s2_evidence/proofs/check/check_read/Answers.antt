use Rattle.std.proofs.Common.{ℕ, List, subst}
use Rattle.std.proofs.lemmas.Result.{err_from_is_err_and}
use Rattle.s2_io.specs.Exits.{CommandAnswers}
use Rattle.s2_evidence.specs.Checking.{ArePartsIn, IsAnswered}
use Rattle.s2_evidence.proofs.InputLemmas.{answers_on_files, rows_unread, certificate_unread}
use Rattle.s2_evidence.proofs.check.check_read.Goals as goal

pub returns-in_err-text-clause-answers : goal.returns-in_err-text-clause-answers
returns-in_err-text-clause-answers g c =
    let p = err_from_is_err_and c.from_residual.result c.from_residual.ensures.1 in
    rw (p.1, p.2) (rows_unread (g.R.CountedRead.remaining c.args.rows.now) (g.R.CountedRead.remaining c.args.certificate.now) c.in_err-text.field-0.0 c.in_err-text.ensures.bytes)

pub returns-in_err-file-clause-answers : goal.returns-in_err-file-clause-answers
returns-in_err-file-clause-answers g c =
    let p = err_from_is_err_and c.from_residual-in_err-file.result c.from_residual-in_err-file.ensures.1 in
    rw (p.1, p.2) (certificate_unread (g.R.CountedRead.remaining c.args.rows.now) (g.R.CountedRead.remaining c.args.certificate.now) c.in_ok-text.text.items c.in_err-file.field-0.0
    c.in_ok-text.ensures.bytes c.in_err-file.ensures.bytes)

pub returns-clause-answers : goal.returns-clause-answers
returns-clause-answers g c =
    let P : List ℕ → List ℕ → Type 0 = λ rows certificate. CommandAnswers IsAnswered (ArePartsIn rows certificate) c.check_parts.result in
    let answers : P c.in_ok-text.text.items c.in_ok-file.file.items =
    subst (λ x. P x c.in_ok-file.file.items) c.deref.ensures.value (subst (λ y. P c.deref.result.now y) c.deref-2.ensures.value c.check_parts.ensures.answers) in
    answers_on_files _ _ c.in_ok-text.text.items c.in_ok-file.file.items c.check_parts.result c.in_ok-text.ensures.bytes c.in_ok-file.ensures.bytes answers
