use Rattle.std.proofs.Common.{sym, subst}
use Rattle.s2_report.specs.Entries.{IsLine}
use Rattle.s2_report.specs.ReportLines.{figures_words}
use Rattle.s2_report.proofs.ReadBack.{figures_line}
use Rattle.s2_report.proofs.lines.push_figures.Goals as goal

pub returns-clause-line : goal.returns-clause-line
returns-clause-line c =
    subst (λ o. IsLine (figures_words o)) (sym c.in-Some.is)
    (figures_line c.in-Some.figures c.push_decoding.ensures.line c.push_count.ensures.line c.push_correlation.ensures.line c.push_count-2.ensures.line c.push_correlation-2.ensures.line c.push_removed.ensures.line)
