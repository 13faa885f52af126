use Rattle.std.proofs.Common.{◌≡◌, ◌-◌, ◌<◌, length}
use Rattle.s2_rows.specs.MadeRows.{free_from}
use Rattle.s2_rows.proofs.make.free_from.Given as goal

-- so many moves are left
abbrev pub invariant-loop-moves : goal.invariant-loop-moves
invariant-loop-moves l = (free_from l.checks l.row (length l.row) l.fn.x ≡ free_from l.checks l.row (length l.row - l._moves) l.x) × (l.x < l.checks)
