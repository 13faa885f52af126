use Rattle.std.proofs.Common.{◌≡◌, ◌++◌}
use Rattle.s2_names.proofs.Codes.{lines_below}
use Rattle.s2_names.proofs.listing.push_lines.Given as goal

-- the lines of those before
abbrev pub invariant-loop-modcod : goal.invariant-loop-modcod
invariant-loop-modcod l = l.text.items ≡ l.initial.text.items ++ lines_below l.rate l.short l.modcod
