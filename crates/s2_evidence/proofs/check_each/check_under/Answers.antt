use Rattle.std.proofs.Common.{◌≡◌, ◌+◌, refl, sym, ap, ◌∙◌, Ok, Err, Some, None}
use Rattle.std.proofs.lemmas.Result.{err_from_is_err_and}
use Rattle.s2_evidence.proofs.CheckEachLemmas.{some_rows, no_memory_as, first_stops, none_at_all, stops_at_rows, rows_as_said, one_so_far, first_print_stops, took_as, said_at}
use Rattle.s2_evidence.proofs.check_each.check_under.Goals as goal

pub returns-in_err-buffer-clause-checks : goal.returns-in_err-buffer-clause-checks
returns-in_err-buffer-clause-checks g c = λ known read.
    let p = err_from_is_err_and c.from_residual.result c.from_residual.ensures.1 in
    rw (p.1, p.2) (no_memory_as known _ some_rows _ c.in_err-buffer.field-0.0 c.in_err-buffer.ensures.told)

pub returns-in_err-certificate-clause-checks : goal.returns-in_err-certificate-clause-checks
returns-in_err-certificate-clause-checks g c = λ known read.
    let p = err_from_is_err_and c.from_residual-in_err-certificate.result c.from_residual-in_err-certificate.ensures.1 in
    rw (p.1, p.2) (first_stops known _ _ some_rows _ c.in_err-certificate.field-0.0 c.in_err-certificate.ensures.takes)

pub returns-in_default-clause-checks : goal.returns-in_default-clause-checks
returns-in_default-clause-checks g c = λ known read. none_at_all known _ _ some_rows _ (took_as _ _ c.in_ok-certificate.field-0 None c.in_default.is c.in_ok-certificate.ensures.takes)

pub returns-in_err-matrix-clause-checks : goal.returns-in_err-matrix-clause-checks
returns-in_err-matrix-clause-checks g c = λ known read.
    let p = err_from_is_err_and c.from_residual-in_err-matrix.result c.from_residual-in_err-matrix.ensures.1 in
    let f = c.in_err-matrix.field-0.0 in
    rw (p.1, p.2) (stops_at_rows known _ _ some_rows c.in-Some.certificate _ c.args.rows.now f _ read
    (took_as _ _ c.in_ok-certificate.field-0 (Some c.in-Some.certificate) c.in-Some.is c.in_ok-certificate.ensures.takes)
    (said_at c.args.rows.now c.shape.result c.in-Some.certificate.shape (Err f) c.shape.ensures c.in_err-matrix.ensures.says)
    (λ e. c.in_err-matrix.ensures.write (search e)) (λ e. c.in_err-matrix.ensures.read (search e)) refl)

pub returns-in_err-first-clause-checks : goal.returns-in_err-first-clause-checks
returns-in_err-first-clause-checks g c = λ known read.
    let p = err_from_is_err_and c.from_residual-in_err-first.result c.from_residual-in_err-first.ensures.1 in
    let file = c.in-Some.certificate in
    rw (p.1, p.2) (first_print_stops known _ _ c.in_ok-matrix.matrix file _ _ c.answered.result.exit c.answered.result.text c.in_err-first.field-0.0
    (rows_as_said known c.args.rows.now file.shape (Ok c.in_ok-matrix.matrix) read (said_at c.args.rows.now c.shape.result file.shape (Ok c.in_ok-matrix.matrix) c.shape.ensures c.in_ok-matrix.ensures.says))
    (took_as _ _ c.in_ok-certificate.field-0 (Some file) c.in-Some.is c.in_ok-certificate.ensures.takes)
    c.answered.ensures c.in_err-first.ensures.prints)

pub returns-clause-checks : goal.returns-clause-checks
returns-clause-checks g c = λ known read.
    let file = c.in-Some.certificate in
    let are = rows_as_said known c.args.rows.now file.shape (Ok c.in_ok-matrix.matrix) read (said_at c.args.rows.now c.shape.result file.shape (Ok c.in_ok-matrix.matrix) c.shape.ensures c.in_ok-matrix.ensures.says) in
    c.check_others.ensures.checks known (g.R.CountedRead.remaining c.args.certificates.now) (g.O.CountedWrite.contents c.args.out.now) file are
    (one_so_far _ _ c.in_ok-matrix.matrix file _ _ c.answered.result.exit c.answered.result.text c.in_ok-first.first
    (took_as _ _ c.in_ok-certificate.field-0 (Some file) c.in-Some.is c.in_ok-certificate.ensures.takes) c.answered.ensures c.in_ok-first.ensures.prints)

pub returns-in_err-buffer-clause-no_read : goal.returns-in_err-buffer-clause-no_read
returns-in_err-buffer-clause-no_read g c = λ _. refl

pub returns-in_err-buffer-clause-no_write : goal.returns-in_err-buffer-clause-no_write
returns-in_err-buffer-clause-no_write g c = λ _. refl

pub returns-in_err-certificate-clause-read : goal.returns-in_err-certificate-clause-read
returns-in_err-certificate-clause-read g c =
    let p = err_from_is_err_and c.from_residual-in_err-certificate.result c.from_residual-in_err-certificate.ensures.1 in
    rw (p.1, p.2) (λ e. c.in_err-certificate.ensures.read (search e))

pub returns-in_err-certificate-clause-no_write : goal.returns-in_err-certificate-clause-no_write
returns-in_err-certificate-clause-no_write g c = λ _. refl

pub returns-in_default-clause-read : goal.returns-in_default-clause-read
returns-in_default-clause-read g c = λ e. absurd (cc)

pub returns-in_default-clause-no_read : goal.returns-in_default-clause-no_read
returns-in_default-clause-no_read g c = λ _. c.in_ok-certificate.ensures.no_other (λ e. absurd (cc))

pub returns-in_default-clause-write : goal.returns-in_default-clause-write
returns-in_default-clause-write g c = λ e. absurd (cc)

pub returns-in_default-clause-no_write : goal.returns-in_default-clause-no_write
returns-in_default-clause-no_write g c = λ _. refl

pub returns-in_err-matrix-clause-read : goal.returns-in_err-matrix-clause-read
returns-in_err-matrix-clause-read g c =
    let p = err_from_is_err_and c.from_residual-in_err-matrix.result c.from_residual-in_err-matrix.ensures.1 in
    rw (p.1, p.2) (λ e. absurd (c.in_err-matrix.ensures.read (search e)))

pub returns-in_err-matrix-clause-no_read : goal.returns-in_err-matrix-clause-no_read
returns-in_err-matrix-clause-no_read g c = λ _. c.in_ok-certificate.ensures.no_other (λ e. absurd (cc))

pub returns-in_err-matrix-clause-write : goal.returns-in_err-matrix-clause-write
returns-in_err-matrix-clause-write g c =
    let p = err_from_is_err_and c.from_residual-in_err-matrix.result c.from_residual-in_err-matrix.ensures.1 in
    rw (p.1, p.2) (λ e. absurd (c.in_err-matrix.ensures.write (search e)))

pub returns-in_err-matrix-clause-no_write : goal.returns-in_err-matrix-clause-no_write
returns-in_err-matrix-clause-no_write g c = λ _. refl

pub returns-in_err-first-clause-no_read : goal.returns-in_err-first-clause-no_read
returns-in_err-first-clause-no_read g c = λ _. c.in_ok-certificate.ensures.no_other (λ e. absurd (cc))

pub returns-in_err-first-clause-write : goal.returns-in_err-first-clause-write
returns-in_err-first-clause-write g c =
    let p = err_from_is_err_and c.from_residual-in_err-first.result c.from_residual-in_err-first.ensures.1 in
    rw (p.1, p.2) (c.in_err-first.ensures.write)

pub returns-in_err-first-clause-no_write : goal.returns-in_err-first-clause-no_write
returns-in_err-first-clause-no_write g c =
    let p = err_from_is_err_and c.from_residual-in_err-first.result c.from_residual-in_err-first.ensures.1 in
    rw (p.1, p.2) (c.in_err-first.ensures.no_write)

pub returns-clause-read : goal.returns-clause-read
returns-clause-read g c = λ e. c.check_others.ensures.read e ∙ ap (λ n. n + 1) (c.in_ok-certificate.ensures.no_other (λ e. absurd (cc)))

pub returns-clause-no_read : goal.returns-clause-no_read
returns-clause-no_read g c = λ ne. c.check_others.ensures.no_read ne ∙ c.in_ok-certificate.ensures.no_other (λ e. absurd (cc))

pub returns-clause-write : goal.returns-clause-write
returns-clause-write g c = λ e. c.check_others.ensures.write e ∙ ap (λ n. n + 1) (c.in_ok-first.ensures.no_write (λ e. absurd (cc)))

pub returns-clause-no_write : goal.returns-clause-no_write
returns-clause-no_write g c = λ ne. c.check_others.ensures.no_write ne ∙ c.in_ok-first.ensures.no_write (λ e. absurd (cc))
