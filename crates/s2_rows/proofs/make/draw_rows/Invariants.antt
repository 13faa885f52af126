use Rattle.std.proofs.Common.{◌≡◌, ◌-◌, ◌≤◌, ◌++◌, map, vec_len, vec_capacity}
use Rattle.s2_mode.specs.Shape.{check_count}
use Rattle.s2_rows.specs.MadeRows.{drawn_rows, made_rows}
use Rattle.s2_rows.proofs.make.draw_rows.Given as goal

-- the rows so far, and those that are left to draw
abbrev pub invariant-loop-made : goal.invariant-loop-made
invariant-loop-made g l = (made_rows l.fn.shape l.weight l.seed ≡ map (λ row. row.items) l.rows.items ++ drawn_rows (check_count l.fn.shape) l.weight (l.fn.shape.groups - l._made) l.generator) × (vec_len l.rows ≡ l._made) × (l.fn.shape.groups ≤ vec_capacity l.rows)
