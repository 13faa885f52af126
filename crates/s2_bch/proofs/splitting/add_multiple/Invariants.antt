use Rattle.std.proofs.Common.{◌≡◌, take}
use Rattle.s2_field.specs.Polynomials.{eval}
use Rattle.s2_bch.proofs.splitting.add_multiple.Given as goal

abbrev pub invariant-loop-i : goal.invariant-loop-i
invariant-loop-i g l =
    let f = g.F.Field in
    (y : g.row.F.Denot) → eval f.field l.remainder y
    ≡ f.field.sum (eval f.field l.fn.remainder y) (f.field.product (eval f.field (take l.i l.polynomial) y) l.factor)
