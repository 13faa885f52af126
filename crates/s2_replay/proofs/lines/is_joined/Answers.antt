use Rattle.std.proofs.Common.{rules}
use Rattle.s2_replay.proofs.JoinedTexts.{joined, not_joined}
use Rattle.s2_replay.proofs.lines.is_joined.Goals as goal

pub returns-in-Some : goal.returns-in-Some
returns-in-Some c = search (rules, joined)

pub returns-in-None : goal.returns-in-None
returns-in-None c = search (rules, not_joined)
