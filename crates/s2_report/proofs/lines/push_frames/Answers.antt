use Rattle.std.proofs.Common.{codes, decimal, refl}
use Rattle.s2_report.proofs.ReadBack.{append_line, known_line}
use Rattle.s2_report.specs.ReportLines.{frames_words}
use Rattle.s2_report.proofs.lines.push_frames.Goals as goal

pub returns-clause-line : goal.returns-clause-line
unfolding frames_words
returns-clause-line c = append_line (codes "end frames ") (decimal c.args.totals.frames) (known_line (codes "end frames ") refl) c.push_count.ensures.line
