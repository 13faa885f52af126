use Rattle.std.proofs.Common.{◌≡◌, ◌-◌, ◌^◌, ◌≤◌, vec_len, vec_capacity}
use Rattle.std.specs.Io.KnownBytes.{prepend_known}
use Rattle.s2_resync.specs.Steps.{Leads, step_outcome}
use Rattle.s2_resync.proofs.seek.seek.Given as goal

-- the same comes of what is left as of all
abbrev pub invariant-seek : goal.invariant-seek
invariant-seek g l =
    Leads (step_outcome l.initial.step (prepend_known l.initial.ahead.items (g.R.CountedRead.remaining l.initial.reader)))
    (step_outcome l.step (prepend_known l.ahead.items (g.R.CountedRead.remaining l.reader)))
    × (g.R.Counted.count l.reader ≡ g.R.Counted.count l.initial.reader) × (l.step.refused ≡ l.initial.step.refused)
    × (vec_len l.ahead ≤ 753) × (753 ≤ vec_capacity l.ahead)

abbrev pub decreases-seek : goal.decreases-seek
decreases-seek g l = 2 ^ 64 - l.step.left_out
