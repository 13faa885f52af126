use Rattle.std.proofs.Common.{ℤ, List, false}
use Rattle.std.proofs.lemmas.Result.{err_from_is_err_and}
use Rattle.s2_rows.specs.Rows.{Rows}
use Rattle.s2_judging.specs.declared.reading.Judged.{Judged}
use Rattle.s2_judging.specs.Judging.{IsOwn}
use Rattle.s2_judging.proofs.InputLemmas.{refused_inputs, on_inputs}
use Rattle.s2_judging.proofs.demo.own_read.Goals as goal

pub returns-in_err-judged-clause-answers : goal.returns-in_err-judged-clause-answers
returns-in_err-judged-clause-answers g c =
    let view : Judged → Rows × List ℤ = λ j. (j.matrix, j.soft.items) in
    let p = err_from_is_err_and c.from_residual.result c.from_residual.ensures.1 in
    rw (p.1, p.2) (refused_inputs IsOwn view false c.args.shape (g.R.CountedRead.remaining c.args.rows.now) (g.S.CountedRead.remaining c.args.soft.now) c.in_err-judged.field-0.0 c.in_err-judged.ensures.says)

pub returns-clause-answers : goal.returns-clause-answers
returns-clause-answers g c =
    on_inputs IsOwn false c.args.shape (g.R.CountedRead.remaining c.args.rows.now) (g.S.CountedRead.remaining c.args.soft.now) c.in_ok-judged.judged.matrix c.in_ok-judged.judged.soft.items c.judge_own.result c.in_ok-judged.ensures.says c.judge_own.ensures.answers
