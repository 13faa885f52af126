use Rattle.s2_bbframe.proofs.Parts.{parts_given, across_gap}
use Rattle.s2_bbframe.proofs.laws.gaps.Goals as goal

pub returns-clause-given : goal.returns-clause-given
returns-clause-given c = parts_given

pub returns-clause-lost : goal.returns-clause-lost
returns-clause-lost c = across_gap
