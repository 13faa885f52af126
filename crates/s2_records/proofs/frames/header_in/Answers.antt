use Rattle.s2_records.proofs.FrameLemmas.{accepted_lengths}
use Rattle.s2_records.proofs.frames.header_in.Goals as goal

pub returns-clause-valid : goal.returns-clause-valid
returns-clause-valid c = accepted_lengths c.args.mode _ c.read.result c.read.ensures
