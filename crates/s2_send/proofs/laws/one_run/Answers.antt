use Rattle.s2_send.proofs.OnlyRuns.{one_run_law}
use Rattle.s2_send.proofs.laws.one_run.Goals as goal

pub returns : goal.returns
returns c = one_run_law c.args.mode c.one_frame.ensures
