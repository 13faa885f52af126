use Rattle.std.proofs.Common.{◌≡◌, ◌≢◌, ◌<◌, ℕ, false, get_or}
use Rattle.s2_bch.proofs.lanes.has_zero.Given as goal

abbrev pub invariant-loop-lane : goal.invariant-loop-lane
invariant-loop-lane g l = l.found ≡ false → (k : ℕ) → k < l.lane → get_or l.values k g.F.Field.field.zero ≢ g.F.Field.field.zero
