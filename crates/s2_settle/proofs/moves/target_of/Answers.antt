use Rattle.std.proofs.Common.{◌<◌, List, length, ap, sym, subst, ◌∙◌, arith}
use Rattle.s2_mode.specs.Shape.{Shape}
use Rattle.s2_rows.specs.Rows.{Rows}
use Rattle.s2_minsum.specs.declared.kernels.Circulant.{Circulant}
use Rattle.s2_minsum.specs.Rows.{rotated, entry_at}
use Rattle.s2_minsum.specs.Layout.{bit_of, entries_of, entry_count}
use Rattle.s2_minsum.specs.Decoding.{AreFit}
use Rattle.s2_minsum.proofs.LayerCalls.{length-entries}
use Rattle.s2_settle.proofs.Shown.{row_low, shift_low, shown_some, shown_none}
use Rattle.s2_settle.proofs.moves.target_of.Goals as goal

pub shown_by-requires-clause-row : goal.shown_by-requires-clause-row
shown_by-requires-clause-row c =
    let rows = c.args.matrix.now in
    let r = c.args.r in
    let e = c.args.e in
    let fit = subst AreFit c.requires.layers c.entries-entries.ensures.fit in
    let es_is = c.entries-entries.ensures.are ∙ ap (λ (x : Rows). entries_of x r) c.requires.layers in
    let low : e < entry_count rows r = omega (arith, ap (λ (es : List Circulant). length es) es_is, length-entries rows r) in
    let is = ap (λ (es : List Circulant). entry_at es e) es_is in
    let row = row_low rows fit r c.requires.layer e low in
    omega (arith, ap (λ (x : Circulant). x.row) is, row, ap (λ (s : Shape). s.groups) c.shape.ensures.is, ap (λ (s : Shape). s.q) c.shape.ensures.is)

pub shown_by-requires-clause-rotation : goal.shown_by-requires-clause-rotation
shown_by-requires-clause-rotation c =
    let rows = c.args.matrix.now in
    let r = c.args.r in
    let e = c.args.e in
    let fit = subst AreFit c.requires.layers c.entries-entries.ensures.fit in
    let es_is = c.entries-entries.ensures.are ∙ ap (λ (x : Rows). entries_of x r) c.requires.layers in
    let low : e < entry_count rows r = omega (arith, ap (λ (es : List Circulant). length es) es_is, length-entries rows r) in
    let is = ap (λ (es : List Circulant). entry_at es e) es_is in
    let shift = shift_low rows fit r c.requires.layer e low in
    omega (arith, ap (λ (x : Circulant). x.shift) is, shift, ap (λ (s : Shape). s.group) c.shape.ensures.is)

pub returns-then-e-entries-clause-is : goal.returns-then-e-entries-clause-is
returns-then-e-entries-clause-is c =
    let rows = c.args.matrix.now in
    let r = c.args.r in
    let e = c.args.e in
    let fit = subst AreFit c.requires.layers c.entries-entries.ensures.fit in
    let es = c.entries-entries.result.now in
    let es_is = c.entries-entries.ensures.are ∙ ap (λ (x : Rows). entries_of x r) c.requires.layers in
    let low : e < entry_count rows r = omega (arith, ap (λ (es : List Circulant). length es) es_is, length-entries rows r) in
    let is = ap (λ (es : List Circulant). entry_at es e) es_is in
    c.shown_by.ensures.is
    ∙ ap (λ (s : Shape). bit_of s (entry_at es e).row (rotated s.group (entry_at es e).shift c.args.lane)) c.shape.ensures.is
    ∙ ap (λ (x : Circulant). bit_of rows.shape x.row (rotated rows.shape.group x.shift c.args.lane)) is
    ∙ sym (shown_some rows fit r c.requires.layer c.args.lane e low)

pub returns-else-e-entries-clause-is : goal.returns-else-e-entries-clause-is
returns-else-e-entries-clause-is c =
    let rows = c.args.matrix.now in
    let r = c.args.r in
    let fit = subst AreFit c.requires.layers c.entries-entries.ensures.fit in
    let es_is = c.entries-entries.ensures.are ∙ ap (λ (x : Rows). entries_of x r) c.requires.layers in
    sym (shown_none rows fit r c.requires.layer c.args.lane c.args.e (omega (arith, ap (λ (es : List Circulant). length es) es_is, length-entries rows r)))
