use Rattle.s2_send.proofs.OnlyRuns.{gives_law}
use Rattle.s2_send.proofs.laws.sender_gives.Goals as goal

pub returns : goal.returns
returns c = gives_law
