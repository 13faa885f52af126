use Rattle.s2_receive.proofs.CallLemmas.{calls_are}
use Rattle.s2_receive.proofs.laws.calls.Goals as goal

pub returns : goal.returns
returns c = calls_are
