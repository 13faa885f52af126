use Rattle.std.proofs.Common.{◌≡◌, ℕ, ◌+◌, ◌*◌, ◌<◌, get_or}
use Rattle.s2_settle.specs.Start.{started}
use Rattle.s2_settle.proofs.start.put_row.Given as goal

abbrev pub invariant-loop-lane : goal.invariant-loop-lane
invariant-loop-lane l = (c : ℕ) → c < l.lane → get_or l.row c 0 ≡ started l.soft l.word (l.first + c * l.step)
