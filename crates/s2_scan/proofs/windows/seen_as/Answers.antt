use Rattle.std.proofs.Common.{List, subst, ◌∙◌}
use Rattle.s2_plframe.specs.Search.{Decision}
use Rattle.s2_plframe.specs.Inside.{IsWindow}
use Rattle.s2_scan.specs.Forms.{is_little, orientation_of}
use Rattle.s2_scan.proofs.Held.{chosen_holds, seen_is}
use Rattle.s2_scan.proofs.UndoLemmas.{undone}
use Rattle.s2_scan.proofs.windows.seen_as.Goals as goal

pub returns : goal.returns
returns c window big little =
    let signs = c.signs_in.result in
    let holds = chosen_holds (is_little c.args.form) window c.args.orders.big c.args.orders.little signs c.signs_in.ensures big little in
    subst (λ (seen : List Decision). IsWindow seen c.window.result)
    (undone (orientation_of c.args.form) signs.odd signs.even c.undo.result.odd c.undo.result.even c.undo.ensures ∙ seen_is c.args.form window signs.odd signs.even holds)
    c.window.ensures
