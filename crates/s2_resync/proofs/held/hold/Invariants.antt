use Rattle.std.proofs.Common.{◌≡◌, ◌-◌, ◌≤◌, vec_len, vec_capacity}
use Rattle.std.specs.Io.KnownBytes.{Keeps, prepend_known}
use Rattle.s2_resync.proofs.held.hold.Given as goal

-- what is held and what the reader still gives are the same bytes
abbrev pub invariant-hold : goal.invariant-hold
invariant-hold g l =
    Keeps (prepend_known l.initial.held.items (g.R.CountedRead.remaining l.initial.reader)) (prepend_known l.held.items (g.R.CountedRead.remaining l.reader))
    × (g.R.Counted.count l.reader ≡ g.R.Counted.count l.initial.reader) × (vec_len l.held ≤ 753) × (753 ≤ vec_capacity l.held)

abbrev pub decreases-hold : goal.decreases-hold
decreases-hold g l = l.wanted - vec_len l.held
