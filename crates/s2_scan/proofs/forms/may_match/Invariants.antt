use Rattle.std.proofs.Common.{◌≡◌, ◌<◌, ℕ, false}
use Rattle.s2_scan.specs.Inside.{decisions_by}
use Rattle.s2_scan.specs.Passing.{matches_sof}
use Rattle.s2_scan.proofs.forms.may_match.Given as goal

-- none of the orientations so far
abbrev pub invariant-loop-orientation : goal.invariant-loop-orientation
invariant-loop-orientation l = l.any ≡ false → (orientation : ℕ) → orientation < l.orientation → matches_sof (decisions_by orientation l.signs.odd l.signs.even) ≡ false
