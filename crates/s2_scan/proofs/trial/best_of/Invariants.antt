use Rattle.std.proofs.Common.{◌≡◌}
use Rattle.s2_scan.specs.Pilots.{IsBest, energy_under}
use Rattle.s2_scan.proofs.trial.best_of.Given as goal

abbrev pub invariant-loop-number : goal.invariant-loop-number
invariant-loop-number l = record {
  best : IsBest l.pilots l.number l.best.number;
  energy : l.best.energy ≡ energy_under l.pilots l.best.number;
}
