use Rattle.std.proofs.Common.{◌≡◌, ◌*◌, get_or}
use Rattle.s2_scramble.specs.Gold.{quarter_turns}
use Rattle.s2_scan.specs.Inside.{IsWithin}
use Rattle.s2_scan.specs.Pilots.{pilot_place}
use Rattle.s2_scan.specs.Sums.{no_sum, sum_below, turned_back}
use Rattle.s2_scan.proofs.trial.descrambled.Given as goal

abbrev pub invariant-loop-k : goal.invariant-loop-k
invariant-loop-k l = record {
  is : l.sum ≡ sum_below (λ k. turned_back (quarter_turns l.number (pilot_place k)) (get_or l.pilots k no_sum)) l.k;
  within : IsWithin (524288 * l.k) l.sum;
}
