use Rattle.std.proofs.Common.{rules}
use Rattle.s2_io.proofs.Rooms.{between_within}
use Rattle.s2_io.proofs.progress_line.push_between.Goals as goal

pub returns-clause-room : goal.returns-clause-room
returns-clause-room c = search (rules, between_within)
