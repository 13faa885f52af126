use Rattle.std.proofs.Common.{◌++◌, codes, decimal, refl}
use Rattle.s2_report.proofs.ReadBack.{append_line, known_line, more_line}
use Rattle.s2_report.specs.ReportLines.{packets_words}
use Rattle.s2_report.proofs.lines.push_packets.Goals as goal

pub returns-clause-line : goal.returns-clause-line
unfolding packets_words
returns-clause-line c =
    more_line (codes " packets " ++ decimal c.args.totals.packets) (codes " bad ") (decimal c.args.totals.bad)
    (append_line (codes " packets ") (decimal c.args.totals.packets) (known_line (codes " packets ") refl) c.push_count.ensures.line) refl c.push_count-2.ensures.line
