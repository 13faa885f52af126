use Rattle.std.proofs.Common.{codes, decimal, refl}
use Rattle.s2_report.proofs.ReadBack.{more_line}
use Rattle.s2_report.specs.ReportLines.{tally_words}
use Rattle.s2_report.proofs.lines.push_tally.Goals as goal

pub returns-clause-line : goal.returns-clause-line
unfolding tally_words
returns-clause-line c = more_line (decimal c.args.tally.sum) (codes " of ") (decimal c.args.tally.of) c.push_count.ensures.line refl c.push_count-2.ensures.line
