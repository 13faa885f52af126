use Rattle.s2_scan.proofs.Orientations.{follows}
use Rattle.s2_scan.proofs.laws.orientations.Goals as goal

pub returns : goal.returns
returns c = follows
