use Rattle.s2_modem.proofs.CleanFrames.{received}
use Rattle.s2_modem.proofs.laws.clean_frame.Goals as goal

pub returns : goal.returns
returns c = received
