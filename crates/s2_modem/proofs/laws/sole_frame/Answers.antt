use Rattle.s2_modem.proofs.CleanFrames.{all_as_likely}
use Rattle.s2_modem.proofs.laws.sole_frame.Goals as goal

pub returns : goal.returns
returns c = λ link tuning symbols linked. (all_as_likely c.args.mode c.k.ensures.valid c.k.ensures.sizes link linked tuning symbols).sole
