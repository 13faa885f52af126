use Rattle.s2_receive.proofs.SameSymbols.{same_run, same_step}
use Rattle.s2_receive.proofs.laws.same_bytes.Goals as goal

pub returns-clause-runs : goal.returns-clause-runs
returns-clause-runs c = same_run

pub returns-clause-steps : goal.returns-clause-steps
returns-clause-steps c = same_step
