use Rattle.s2_receive.proofs.OwnRuns.{own_run}
use Rattle.s2_receive.proofs.laws.own_run.Goals as goal

pub returns : goal.returns
returns c = own_run
