use Rattle.s2_receive.proofs.RunLemmas.{go_on}
use Rattle.s2_receive.proofs.laws.two_runs.Goals as goal

pub returns : goal.returns
returns c = go_on
