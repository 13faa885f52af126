use Rattle.std.proofs.Common.{◌≡◌, ◌+◌, drop}
use Rattle.std.specs.Char.{is_ascii_digit}
use Rattle.std.specs.List.{prefix_len}
use Rattle.s2_names.proofs.rate_text.digits_in.Given as goal

-- all bytes before are digits
abbrev pub invariant-digits : goal.invariant-digits
invariant-digits l = (l.digits ≡ l.byte-index) × (l.digits + prefix_len is_ascii_digit (drop l.byte-index l.text) ≡ prefix_len is_ascii_digit l.text)
