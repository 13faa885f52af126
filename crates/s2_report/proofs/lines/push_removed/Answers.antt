use Rattle.std.proofs.Common.{sym, subst}
use Rattle.s2_report.specs.Entries.{IsLine}
use Rattle.s2_report.specs.ReportLines.{removed_words}
use Rattle.s2_report.proofs.ReadBack.{removed_line}
use Rattle.s2_report.proofs.lines.push_removed.Goals as goal

pub returns-clause-line : goal.returns-clause-line
returns-clause-line c = subst (λ o. IsLine (removed_words o)) (sym c.in-Some.is) (removed_line c.in-Some.removed c.push_parts.ensures.line c.push_parts-2.ensures.line)
