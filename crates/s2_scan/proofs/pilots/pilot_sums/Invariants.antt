use Rattle.std.proofs.Common.{◌≡◌, ◌<◌, ℕ, get_or, length, map}
use Rattle.std.specs.List.{range_with_len}
use Rattle.s2_scan.specs.Inside.{IsWithin}
use Rattle.s2_scan.specs.Pilots.{pilot_sum}
use Rattle.s2_scan.specs.Sums.{no_sum}
use Rattle.s2_scan.proofs.pilots.pilot_sums.Given as goal

abbrev pub invariant-loop-k : goal.invariant-loop-k
invariant-loop-k l = record {
  are : l.sums.items ≡ map (pilot_sum l.form l.bytes l.frames) (range_with_len 0 l.k);
  size : length l.sums.items ≡ l.k;
  each : (j : ℕ) → j < l.k → IsWithin 524288 (get_or l.sums.items j no_sum);
}
