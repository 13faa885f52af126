use Rattle.std.proofs.Common.{◌≡◌, ◌+◌, ◌*◌}
use Rattle.s2_scan.specs.Inside.{IsWithin}
use Rattle.s2_scan.specs.Pilots.{pilot_place, position_at, symbol_at}
use Rattle.s2_scan.specs.Sums.{sum_below}
use Rattle.s2_scan.proofs.pilots.pilot_sum.Given as goal

abbrev pub invariant-loop-j : goal.invariant-loop-j
invariant-loop-j l = record {
  is : l.sum ≡ sum_below (λ j. symbol_at l.form l.bytes (position_at l.frames j + (90 + pilot_place l.fn.k))) l.j;
  within : IsWithin (32768 * l.j) l.sum;
}
