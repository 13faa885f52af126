use Rattle.std.proofs.Common.{◌≡◌, ℕ, min, drop}
use Rattle.s2_mode.specs.Limits.{max_symbols}
use Rattle.s2_rows.specs.Numbers.{digits_from}
use Rattle.s2_report.proofs.number.natural.Given as goal

-- the number so far, and the digits that it goes on with
abbrev pub invariant-digits : goal.invariant-digits
invariant-digits l = (m : ℕ) × (l.n ≡ min max_symbols m) × (digits_from m (drop l.b-index l.digits) ≡ digits_from 0 l.digits)
