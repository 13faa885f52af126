use Rattle.std.proofs.Common.{◌≤◌, length}
use Rattle.s2_field.specs.Polynomials.{IsZeroFrom}
use Rattle.s2_field.proofs.polynomial.degree.Given as goal

abbrev pub invariant-loop-i : goal.invariant-loop-i
invariant-loop-i g l = (l.i ≤ length l.polynomial) × IsZeroFrom g.F.Field.field.zero l.i l.polynomial

abbrev pub decreases-loop-i : goal.decreases-loop-i
decreases-loop-i g l = l.i
