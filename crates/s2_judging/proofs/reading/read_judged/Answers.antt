use Rattle.std.proofs.Common.{ℤ, List}
use Rattle.std.proofs.lemmas.Result.{err_from_is_err_and}
use Rattle.s2_rows.specs.Rows.{Rows}
use Rattle.s2_judging.specs.declared.reading.Judged.{Judged}
use Rattle.s2_judging.proofs.InputLemmas.{are_inputs, rows_refused, values_refused}
use Rattle.s2_judging.proofs.reading.read_judged.Goals as goal

pub returns-in_err-matrix-clause-says : goal.returns-in_err-matrix-clause-says
returns-in_err-matrix-clause-says g c =
    let view : Judged → Rows × List ℤ = λ j. (j.matrix, j.soft.items) in
    let p = err_from_is_err_and c.from_residual.result c.from_residual.ensures.1 in
    rw (p.1, p.2) (rows_refused view c.args.hard c.args.shape (g.R.CountedRead.remaining c.args.rows.now) (g.S.CountedRead.remaining c.args.soft.now) c.in_err-matrix.field-0.0 c.in_err-matrix.ensures.rows)

pub returns-in_err-soft-clause-says : goal.returns-in_err-soft-clause-says
returns-in_err-soft-clause-says g c =
    let view : Judged → Rows × List ℤ = λ j. (j.matrix, j.soft.items) in
    let p = err_from_is_err_and c.from_residual-in_err-soft.result c.from_residual-in_err-soft.ensures.1 in
    rw (p.1, p.2) (values_refused c.read_value_file.result (λ v. v.items) view c.args.hard c.args.shape (g.R.CountedRead.remaining c.args.rows.now) (g.S.CountedRead.remaining c.args.soft.now) c.in_ok-matrix.matrix c.in_err-soft.field-0.0 c.in_ok-matrix.ensures.rows c.in_err-soft.ensures.values)

pub returns-clause-says : goal.returns-clause-says
returns-clause-says g c =
    are_inputs c.args.hard c.args.shape (g.R.CountedRead.remaining c.args.rows.now) (g.S.CountedRead.remaining c.args.soft.now) c.in_ok-matrix.matrix c.in_ok-soft.soft.items c.in_ok-matrix.ensures.rows c.in_ok-soft.ensures.values
