use Rattle.std.proofs.Common.{ap, ◌∙◌}
use Rattle.s2_plframe.specs.Inside.{held_list}
use Rattle.s2_scan.specs.Passing.{matches_sof}
use Rattle.s2_scan.proofs.UndoLemmas.{undone, sof_is}
use Rattle.s2_scan.proofs.forms.matches_sof.Goals as goal

pub returns : goal.returns
returns c =
    let odd = c.undo.result.odd in
    let even = c.undo.result.even in
    c.is_sof.ensures
    ∙ (sof_is (held_list odd even 90) c.args.header c.window.result c.requires.header c.window.ensures
    ∙ ap matches_sof (undone c.args.orientation c.args.signs.odd c.args.signs.even odd even c.undo.ensures))
