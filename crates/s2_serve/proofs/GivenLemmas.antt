-- A file that may not be given, with no failed call.
use Rattle.std.proofs.Common.{arith, ◌≡◌, ℕ, Option, Some, None, IfSome}
use Rattle.s2_mode.specs.Counts.{CanCount}
use Rattle.s2_receive.specs.Sinks.{wanted_count}

-- one more failed call of it can be counted
pub can_count : {A : Type 0} → (count : A → ℕ) → (file : Option A) → IfSome file (λ f. count f ≡ 0) → CanCount (wanted_count count file)
can_count count None fresh = omega arith
can_count count (Some f) fresh = omega (arith, fresh)
