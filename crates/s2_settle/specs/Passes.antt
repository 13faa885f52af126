-- A pass over all layers (own).
use Rattle.std.specs.Prelude.{fold}
use Rattle.s2_rows.specs.Rows.{Rows}
use Rattle.s2_matrix.specs.Total.{upto}
use Rattle.s2_settle.specs.declared.course.Step.{Step}
use Rattle.s2_settle.specs.Layer.{Held, layer}

-- layers 0 to q - 1 in order
abbrev pub pass : Rows → Step → Held → Held
pass rows step h = fold (layer rows step) h (upto rows.shape.q)
