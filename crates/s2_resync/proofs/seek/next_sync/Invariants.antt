use Rattle.std.proofs.Common.{◌≡◌, ◌<◌, ℕ, false}
use Rattle.s2_resync.specs.Syncs.{has_sync}
use Rattle.s2_resync.proofs.seek.next_sync.Given as goal

-- no place so far has a sync byte
abbrev pub invariant-loop-place : goal.invariant-loop-place
invariant-loop-place l = (place : ℕ) → 0 < place → place < l.place → has_sync l.bytes place ≡ false
