use Rattle.std.proofs.Common.{◌≡◌, ℕ, ◌<◌}
use Rattle.s2_check.specs.Cost.{value_at}
use Rattle.s2_replay.proofs.certificates.has_values.Given as goal

abbrev pub invariant-places : goal.invariant-places
invariant-places l = (k : ℕ) → k < l.i → value_at l.view.soft k ≡ value_at l.soft k
