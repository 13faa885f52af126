use Rattle.std.proofs.Common.{◌≡◌, ◌<◌, ℕ, None}
use Rattle.s2_resync.specs.Syncs.{distance_at}
use Rattle.s2_resync.proofs.syncs.first_syncs.Given as goal

-- no place before has five sync bytes
abbrev pub invariant-loop-place : goal.invariant-loop-place
invariant-loop-place l = (place : ℕ) → place < l.place → distance_at l.bytes place ≡ None
