use Rattle.s2_check.proofs.UnsplitStrict.{unsplit_strict_lem}
use Rattle.s2_check.proofs.laws.unsplit_strict.Goals as goal

pub returns : goal.returns
returns c = unsplit_strict_lem
