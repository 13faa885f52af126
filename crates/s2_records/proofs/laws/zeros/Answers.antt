use Rattle.s2_records.proofs.FrameLemmas.{zeros_are_a_gap}
use Rattle.s2_records.proofs.laws.zeros.Goals as goal

pub returns : goal.returns
returns c = zeros_are_a_gap
