use Rattle.std.proofs.Common.{◌≡◌, ◌^◌, length}
use Rattle.s2_field.specs.Polynomials.{pow, eval}
use Rattle.s2_bch.specs.Splitting.{IsRoot}
use Rattle.s2_bch.proofs.splitting.power_is_x.Given as goal

abbrev pub invariant-loop : goal.invariant-loop
invariant-loop g l =
    let f = g.F.Field in
    record {
      size : length l.remainder ≡ length l.low;
      room : length l.room ≡ length l.low;
      value : (y : g.row.F.Denot) → IsRoot f.field l.low y → eval f.field l.remainder y ≡ pow f.field y (2 ^ l.counter);
    }
