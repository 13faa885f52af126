use Rattle.std.proofs.Common.{rules}
use Rattle.s2_report.proofs.ReadBack.{number_line}
use Rattle.s2_report.proofs.Rooms.{count_within}
use Rattle.s2_report.proofs.lines.push_count.Goals as goal

pub returns-clause-room : goal.returns-clause-room
returns-clause-room c = count_within _ _ _ _ (search rules) c.push_number.ensures.bytes

pub returns-clause-line : goal.returns-clause-line
returns-clause-line c = number_line c.args.count (search rules)
