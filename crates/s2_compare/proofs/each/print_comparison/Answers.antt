use Rattle.s2_compare.proofs.EachLemmas.{runs_under}
use Rattle.s2_compare.proofs.each.print_comparison.Goals as goal

pub returns-clause-run : goal.returns-clause-run
returns-clause-run g c =
    runs_under c.args.form.now (g.R.CountedRead.remaining c.args.rows.now) _ _ _ _ _ c.shape.result c.in_ok-matrix.matrix c.shape.ensures c.in_ok-matrix.ensures.rows c.compare_under.ensures.compares
