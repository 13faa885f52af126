use Rattle.std.proofs.Common.{arith}
use Rattle.s2_scan.proofs.SumLemmas.{within_more}
use Rattle.s2_scan.proofs.strength.energy_at.Goals as goal

pub energy-requires : goal.energy-requires
energy-requires c = within_more 32768 37748736 c.conjugated_if.result (omega arith) c.conjugated_if.ensures.within
