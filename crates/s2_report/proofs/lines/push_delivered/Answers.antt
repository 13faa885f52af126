use Rattle.std.proofs.Common.{codes, decimal, refl}
use Rattle.s2_report.proofs.ReadBack.{append_line, known_line}
use Rattle.s2_report.specs.ReportLines.{delivered_words}
use Rattle.s2_report.proofs.lines.push_delivered.Goals as goal

pub returns-clause-line : goal.returns-clause-line
unfolding delivered_words
returns-clause-line c = append_line (codes " delivered ") (decimal c.args.totals.delivered) (known_line (codes " delivered ") refl) c.push_count.ensures.line
