use Rattle.std.proofs.Common.{◌≡◌, ◌-◌, []}
use Rattle.arrayvec.specs.ArrayVec.{array_vec_len}
use Rattle.s2_rows.specs.MadeRows.{drawn_row}
use Rattle.s2_rows.proofs.make.draw_row.Given as goal

-- the row so far, and the addresses that are left to draw
abbrev pub invariant-loop-drawn : goal.invariant-loop-drawn
invariant-loop-drawn l = (drawn_row l.checks l.weight [] l.initial.generator ≡ drawn_row l.checks (l.weight - l._drawn) l.row.items l.generator) × (array_vec_len l.row ≡ l._drawn)
