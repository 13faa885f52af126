use Rattle.s2_send.proofs.OnlyRuns.{as_run_law}
use Rattle.s2_send.proofs.laws.as_run.Goals as goal

pub returns : goal.returns
returns c = as_run_law c.args.mode c.one_frame.ensures
