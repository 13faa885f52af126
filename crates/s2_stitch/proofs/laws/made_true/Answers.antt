use Rattle.s2_stitch.proofs.FrameLemmas.{made_true}
use Rattle.s2_stitch.proofs.laws.made_true.Goals as goal

pub returns : goal.returns
returns c = made_true
