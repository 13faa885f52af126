use Rattle.std.proofs.Common.{◌≡◌, ℕ, ◌+◌, ◌*◌, ◌<◌, get_or, false}
use Rattle.s2_minsum.specs.Decoding.{is_one}
use Rattle.s2_minsum.proofs.hard.decide_lane.Given as goal

abbrev pub invariant-loop-r : goal.invariant-loop-r
invariant-loop-r l = (i : ℕ) → i < l.k + (l.r + l.lane * l.q) → get_or l.word i false ≡ is_one l.shape l.posteriors i
