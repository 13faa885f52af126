use Rattle.std.proofs.Common.{◌≡◌, Ok, Err, subst, sym}
use Rattle.std.specs.Prelude.{IfSome}
use Rattle.std.proofs.lemmas.Result.{err_from_is_err_and}
use Rattle.s2_mode.specs.Shape.{Shape}
use Rattle.s2_rows.specs.Rows.{Rows}
use Rattle.s2_io.specs.Exits.{Follows}
use Rattle.s2_inputs.specs.Inputs.{rows_in}
use Rattle.s2_table.specs.Tables.{IsNoted}
use Rattle.s2_table.proofs.note.read_noted.Goals.{then-not-quiet, else-not-quiet}
use Rattle.s2_table.proofs.note.read_noted.Goals as goal

pub returns-in_err-matrix-clause-rows : goal.returns-in_err-matrix-clause-rows
returns-in_err-matrix-clause-rows g c =
    let P : Shape → Type 0 = λ s. IfSome (g.R.CountedRead.remaining c.args.reader.now) (λ text. Follows {V = Rows} (λ m. m) (Err c.in_err-matrix.field-0.0) (rows_in s text)) in
    let p = err_from_is_err_and c.from_residual.result c.from_residual.ensures.1 in
    rw (p.1, p.2) (subst P c.shape.ensures.is c.in_err-matrix.ensures.rows)

pub returns-clause-rows : goal.returns-clause-rows
returns-clause-rows g c =
    let P : Shape → Type 0 = λ s. IfSome (g.R.CountedRead.remaining c.args.reader.now) (λ text. rows_in s text ≡ Ok c.in_ok-matrix.matrix) in
    subst P c.shape.ensures.is c.in_ok-matrix.ensures.rows
