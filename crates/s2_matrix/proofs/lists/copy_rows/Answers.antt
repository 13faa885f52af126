use Rattle.std.proofs.Common.{◌<◌, ℕ, List, [], ◌∷◌, ◌++◌, map, length, ap, ap₂, sym, ◌∙◌, arith}
use Rattle.std.proofs.lemmas.List.{take_more, take_all, map-append}
use Rattle.s2_mode.specs.Shape.{Shape}
use Rattle.arrayvec.specs.declared.array_vec.ArrayVec.{ArrayVec}
use Rattle.s2_matrix.proofs.lists.copy_rows.Goals as goal

pub loop-i-preserved : goal.loop-i-preserved
loop-i-preserved c =
    let rows = c.args.rows.now.rows in
    let i = c.loop-i.i in
    let long = c.shape.ensures.valid.long in
    let h : i < length rows = omega (arith, c.groups-groups.ensures.is ∙ ap (λ (s : Shape). s.groups) c.shape.ensures.is) in
    let f = λ (row : ArrayVec ℕ 24 (Unit {0})). row.items in
    ap (map f) c.in_ok-push.ensures.items ∙ map-append f c.loop-i.copy.items (c.copy_row.result ∷ []) ∙ ap₂ (λ (xs : List (List ℕ)) (x : List ℕ). xs ++ x ∷ []) c.loop-i.invariant (c.copy_row.ensures ∙ c.row.ensures.are) ∙ sym (take_more rows i [] h)

pub returns : goal.returns
returns c =
    let rows = c.args.rows.now.rows in
    let long = c.shape.ensures.valid.long in
    c.loop-i.invariant ∙ take_all c.loop-i.i rows (omega (arith, c.groups-groups.ensures.is ∙ ap (λ (s : Shape). s.groups) c.shape.ensures.is, c.loop-i-test.false))
