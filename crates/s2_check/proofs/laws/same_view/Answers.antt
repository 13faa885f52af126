use Rattle.s2_check.proofs.SameViews.{same_view_lem}
use Rattle.s2_check.proofs.laws.same_view.Goals as goal

pub returns : goal.returns
returns c = same_view_lem
