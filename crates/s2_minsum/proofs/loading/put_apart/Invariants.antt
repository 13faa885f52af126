use Rattle.std.proofs.Common.{◌≡◌, ℕ, ◌+◌, ◌*◌, ◌<◌, get_or, pos}
use Rattle.s2_bits.specs.Lanes16.{signed16}
use Rattle.s2_minsum.proofs.loading.put_apart.Given as goal

abbrev pub invariant-loop-lane : goal.invariant-loop-lane
invariant-loop-lane l = (c : ℕ) → c < l.lane → signed16 (get_or l.row c 0) ≡ get_or l.soft (l.first + c * l.step) (pos 0)
