use Rattle.std.proofs.Common.{◌≡◌, ◌-◌, ◌≤◌, vec_len, vec_capacity}
use Rattle.std.specs.Io.KnownBytes.{Consumes}
use Rattle.s2_mode.proofs.reading.read_into.Given as goal

abbrev pub invariant-fill : goal.invariant-fill
invariant-fill g l = Consumes (g.R.CountedRead.remaining l.initial.reader) (g.R.CountedRead.remaining l.reader) l.bytes.items
    × (g.R.Counted.count l.reader ≡ g.R.Counted.count l.initial.reader) × (vec_len l.bytes ≤ l.most) × (l.most ≤ vec_capacity l.bytes)

abbrev pub decreases-fill : goal.decreases-fill
decreases-fill g l = l.most - vec_len l.bytes
