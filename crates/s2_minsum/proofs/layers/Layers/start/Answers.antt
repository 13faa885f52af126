use Rattle.std.proofs.Common.{◌≡◌, ◌+◌, ◌-◌, ◌<◌, ◌≤◌, length, ap, ◌∙◌, arith}
use Rattle.std.proofs.lemmas.List.{get_or_default}
use Rattle.s2_rows.specs.Rows.{Rows}
use Rattle.s2_minsum.specs.Layout.{first_row}
use Rattle.s2_minsum.proofs.FirstRows.{first_row-le}
use Rattle.s2_minsum.proofs.Starts.{rows_few}
use Rattle.s2_minsum.proofs.layers.Layers.start.Goals as goal

pub returns-clause-few : goal.returns-clause-few
returns-clause-few c =
    let rows = c.self.inside.matrix.now in
    let layer_starts = c.self.inside.layer_starts.items in
    let r = c.args.r in
    let q = rows.shape.q in
    let low : r ≤ q = omega (arith, c.requires, ap (λ (x : Rows). x.shape.q) c.self.view_is) in
    let room : r < length layer_starts = omega (arith, low, c.self.invariant.layer_starts_long) in
    let is = c.index.ensures ∙ get_or_default layer_starts r c.index.result.now 0 room ∙ c.self.invariant.layer_starts_are r low in
    let all : r + (q - r) ≡ q = omega arith in
    omega (arith, is, first_row-le rows r (q - r), ap (first_row rows) all, rows_few rows c.self.invariant.fit.shaped)
