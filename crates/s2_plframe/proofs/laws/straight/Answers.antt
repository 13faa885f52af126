use Rattle.std.proofs.Common.{ap}
use Rattle.s2_plframe.specs.Search.{found, found_behind}
use Rattle.s2_plframe.proofs.TurnFacts.{straight_is}
use Rattle.s2_plframe.proofs.laws.straight.Goals as goal

pub returns : goal.returns
returns c = λ m lock symbols. (ap (found m) (straight_is symbols), ap (found_behind m lock) (straight_is symbols))
