use Rattle.std.proofs.Common.{◌≡◌, ◌≤◌, drop, length}
use Rattle.s2_field.specs.Polynomials.{eval}
use Rattle.s2_bch.specs.Splitting.{IsRoot}
use Rattle.s2_bch.proofs.splitting.square.Given as goal

abbrev pub invariant-loop-i : goal.invariant-loop-i
invariant-loop-i g l =
    let f = g.F.Field in
    record {
      size : length l.room ≡ length l.remainder;
      within : l.i ≤ length l.remainder;
      value : (y : g.row.F.Denot) → IsRoot f.field l.low y → eval f.field l.room y
          ≡ f.field.product (eval f.field (drop l.i l.remainder) y) (eval f.field (drop l.i l.remainder) y);
    }

abbrev pub decreases-loop-i : goal.decreases-loop-i
decreases-loop-i g l = l.i
