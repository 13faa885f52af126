use Rattle.std.proofs.lemmas.Result.{err_from_is_err_and}
use Rattle.std.proofs.Common.{sym, ◌∙◌}
use Rattle.s2_evidence.proofs.CheckEachLemmas.{stops_before, some_rows}
use Rattle.s2_evidence.proofs.check_each.print_checks.Goals as goal

pub returns-in_err-text-clause-run : goal.returns-in_err-text-clause-run
returns-in_err-text-clause-run g c =
    let p = err_from_is_err_and c.from_residual.result c.from_residual.ensures.1 in
    rw (p.1, p.2) (stops_before _ _ some_rows _ c.in_err-text.field-0.0 (λ e. c.in_err-text.ensures.write (search (c.in_err-text.is, e))) c.in_err-text.ensures.bytes)
