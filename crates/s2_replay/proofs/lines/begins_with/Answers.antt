use Rattle.std.proofs.Common.{rules}
use Rattle.s2_replay.proofs.JoinedTexts.{begun, not_begun}
use Rattle.s2_replay.proofs.lines.begins_with.Goals as goal

pub returns-in-Some : goal.returns-in-Some
returns-in-Some c = search (rules, begun)

pub returns-in-None : goal.returns-in-None
returns-in-None c = search (rules, not_begun)
