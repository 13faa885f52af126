use Rattle.std.proofs.Common.{◌≡◌, Ok, Err, subst}
use Rattle.std.specs.Prelude.{IfSome}
use Rattle.std.proofs.lemmas.Result.{err_from_is_err_and}
use Rattle.s2_mode.specs.Mode.{shape_in}
use Rattle.s2_mode.specs.Shape.{Shape}
use Rattle.s2_rows.specs.Rows.{Rows}
use Rattle.s2_io.specs.Exits.{Follows}
use Rattle.s2_inputs.specs.Inputs.{rows_in}
use Rattle.s2_table.specs.Tables.{SaysStandard}
use Rattle.s2_table.proofs.TableLemmas.{refused_rows}
use Rattle.s2_table.proofs.command.table_read.Goals as goal

pub returns-in_err-matrix-clause-answers : goal.returns-in_err-matrix-clause-answers
returns-in_err-matrix-clause-answers g c =
    let known = g.R.CountedRead.remaining c.args.rows.now in
    let P : Shape → Type 0 = λ s. IfSome known (λ text. Follows {V = Rows} (λ m. m) (Err c.in_err-matrix.field-0.0) (rows_in s text)) in
    let p = err_from_is_err_and c.from_residual.result c.from_residual.ensures.1 in
    rw (p.1, p.2) (refused_rows (SaysStandard c.args.mode.now) (shape_in c.args.mode.now) known c.in_err-matrix.field-0.0 (subst P c.shape.ensures.is c.in_err-matrix.ensures.rows))

pub returns-clause-answers : goal.returns-clause-answers
returns-clause-answers g c =
    let P : Shape → Type 0 = λ s. IfSome (g.R.CountedRead.remaining c.args.rows.now) (λ text. rows_in s text ≡ Ok c.in_ok-matrix.matrix) in
    (c.in_ok-matrix.matrix, subst P c.shape.ensures.is c.in_ok-matrix.ensures.rows, c.answered.ensures)
