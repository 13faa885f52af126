-- The line of soft values, value by value.
use Rattle.std.proofs.Common.{◌≡◌, ℕ, ◌+◌, ◌<◌, ◌≤◌, ℤ, pos, List, [], ◌++◌, drop, length, get_or, sym, ap, ◌∙◌, drop_of_length-le}
use Rattle.std.specs.Fmt.{signed_decimal}
use Rattle.std.proofs.lemmas.List.{at_drop_more}
use Rattle.s2_records.specs.Values.{after_value, values_line}

pub line_at : (soft : List ℤ) (at : ℕ) (v : ℤ) → v ≡ get_or soft at (pos 0) → at < length soft → values_line (drop at soft) ≡ (signed_decimal v ++ after_value (drop (at + 1) soft)) ++ values_line (drop (at + 1) soft)
unfolding values_line
line_at soft at v is h =
    at_drop_more values_line soft at (pos 0) h ∙ ap (λ x. (signed_decimal x ++ after_value (drop (at + 1) soft)) ++ values_line (drop (at + 1) soft)) (sym is)

pub line_end : (soft : List ℤ) (at : ℕ) → length soft ≤ at → values_line (drop at soft) ≡ []
unfolding values_line
line_end soft at h = ap values_line (drop_of_length-le soft h)
