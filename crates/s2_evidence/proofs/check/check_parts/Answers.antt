use Rattle.std.proofs.Common.{ap, ◌∙◌}
use Rattle.std.proofs.lemmas.Result.{err_from_is_err_and}
use Rattle.s2_rows.specs.Rows.{Rows}
use Rattle.s2_rows.specs.RowFiles as row_files
use Rattle.s2_certfile.specs.File.{File}
use Rattle.s2_certfile.specs.Format.{file_of_bytes}
use Rattle.s2_io.proofs.CommandLemmas.{refuses}
use Rattle.s2_inputs.specs.Inputs.{rows_said}
use Rattle.s2_evidence.specs.Checking.{certificate_said, with_rows, beside, ArePartsIn, IsAnswered}
use Rattle.s2_evidence.proofs.InputLemmas.{parts_of}
use Rattle.s2_evidence.proofs.check.check_parts.Goals as goal

pub returns-in_err-certificate-clause-answers : goal.returns-in_err-certificate-clause-answers
returns-in_err-certificate-clause-answers c =
    let text = c.args.rows.now in
    let file = c.args.certificate.now in
    let p = err_from_is_err_and c.from_residual.result c.from_residual.ensures.1 in
    rw (p.1, p.2) (refuses IsAnswered (ArePartsIn text file) (λ (x : File). x) c.in_err-certificate.field-0.0 (certificate_said (file_of_bytes file))
    (λ e. ap (with_rows text) e) c.in_err-certificate.ensures.says)

pub returns-in_err-matrix-clause-answers : goal.returns-in_err-matrix-clause-answers
returns-in_err-matrix-clause-answers c =
    let text = c.args.rows.now in
    let file = c.in_ok-certificate.certificate in
    let shape = c.shape.result in
    let parts = parts_of text c.args.certificate.now file shape c.in_ok-certificate.ensures.says c.shape.ensures in
    let p = err_from_is_err_and c.from_residual-in_err-matrix.result c.from_residual-in_err-matrix.ensures.1 in
    rw (p.1, p.2) (refuses IsAnswered (ArePartsIn text c.args.certificate.now) (λ (r : Rows). r) c.in_err-matrix.field-0.0 (rows_said shape (row_files.rows_of_text text shape))
    (λ e. parts ∙ ap (beside file) e) c.in_err-matrix.ensures.says)

pub returns-clause-answers : goal.returns-clause-answers
returns-clause-answers c =
    let file = c.in_ok-certificate.certificate in
    let parts = parts_of c.args.rows.now c.args.certificate.now file c.shape.result c.in_ok-certificate.ensures.says c.shape.ensures in
    ((c.in_ok-matrix.matrix, file), parts ∙ ap (beside file) c.in_ok-matrix.ensures.says, c.answered.ensures)
