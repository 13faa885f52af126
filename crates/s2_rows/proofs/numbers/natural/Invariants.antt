use Rattle.std.proofs.Common.{◌≡◌, ℕ, min, drop}
use Rattle.s2_rows.specs.Numbers.{digits_from}
use Rattle.s2_rows.proofs.numbers.natural.Given as goal

-- the number so far, and the digits that it goes on with
abbrev pub invariant-loop-b : goal.invariant-loop-b
invariant-loop-b l = (m : ℕ) × (l.n ≡ min 1000000 m) × (digits_from m (drop l.b-index l.digits) ≡ digits_from 0 l.digits)
