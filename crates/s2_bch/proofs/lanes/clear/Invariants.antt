use Rattle.std.proofs.Common.{◌≡◌, ◌<◌, ℕ, get_or}
use Rattle.s2_bch.proofs.lanes.clear.Given as goal

abbrev pub invariant-loop-lane : goal.invariant-loop-lane
invariant-loop-lane g l = (k : ℕ) → k < l.lane → get_or l.values k g.F.Field.field.zero ≡ g.F.Field.field.zero
