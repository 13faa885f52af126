use Rattle.std.proofs.Common.{◌≡◌, ◌≤◌, drop}
use Rattle.s2_names.specs.Rates.{max_rate}
use Rattle.s2_names.specs.RateTexts.{number_after}
use Rattle.s2_names.proofs.rate_text.with_digits.Given as goal

-- the digits before are in the number
abbrev pub invariant-digits : goal.invariant-digits
invariant-digits l = (l.all ≤ max_rate) × (number_after l.all (drop l.digit-index l.digits) ≡ number_after l.number l.digits)
