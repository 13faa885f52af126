use Rattle.s2_send.proofs.RunSteps.{writer_failed}
use Rattle.s2_send.proofs.transmitter.Transmitter.run.Goals as goal

pub returns-clause-runs : goal.returns-clause-runs
returns-clause-runs g c = c.run_with.ensures.runs.run

pub returns-clause-write : goal.returns-clause-write
returns-clause-write g c = λ e. writer_failed _ _ (c.run_with.ensures.write e)

pub returns-clause-no_write : goal.returns-clause-no_write
returns-clause-no_write g c = λ e. (c.run_with.ensures.no_write e).0
