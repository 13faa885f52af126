use Rattle.std.proofs.Common.{◌≡◌, ◌≤◌, drop, length}
use Rattle.s2_field.specs.Polynomials.{eval}
use Rattle.s2_field.proofs.polynomial.eval.Given as goal

abbrev pub invariant-loop-i : goal.invariant-loop-i
invariant-loop-i g l =
    let f = g.F.Field in
    (l.i ≤ length l.polynomial) × (l.value ≡ eval f.field (drop l.i l.polynomial) l.x)

abbrev pub decreases-loop-i : goal.decreases-loop-i
decreases-loop-i g l = l.i
