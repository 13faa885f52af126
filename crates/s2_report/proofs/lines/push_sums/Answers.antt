use Rattle.std.proofs.Common.{sym, subst}
use Rattle.s2_report.specs.Entries.{IsLine}
use Rattle.s2_report.specs.ReportLines.{sums_words}
use Rattle.s2_report.proofs.ReadBack.{sums_line}
use Rattle.s2_report.proofs.lines.push_sums.Goals as goal

pub returns-clause-line : goal.returns-clause-line
returns-clause-line c =
    subst (λ o. IsLine (sums_words o)) (sym c.in-Some.is)
    (sums_line c.in-Some.sums c.push_tally.ensures.line c.push_tally-2.ensures.line c.push_count.ensures.line c.push_tally-3.ensures.line c.push_count-2.ensures.line)
