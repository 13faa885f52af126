use Rattle.s2_modem.proofs.HeadlineLemmas.{frame_promises}
use Rattle.s2_modem.proofs.laws.frames.Goals as goal

pub returns : goal.returns
returns c = frame_promises c.args.mode c.k.ensures.valid c.k.ensures.sizes
