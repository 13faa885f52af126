use Rattle.s2_modem.proofs.FirstFrames.{one_stream_law}
use Rattle.s2_modem.proofs.laws.one_stream.Goals as goal

pub returns : goal.returns
returns c = one_stream_law
