use Rattle.std.proofs.Common.{List, Some, ℤ, sym, ap, ap₂, ◌∙◌}
use Rattle.s2_rows.specs.Rows.{Rows}
use Rattle.s2_check.specs.Views.{unsplit_view}
use Rattle.s2_judge.specs.Judging.{Judging, view_by}
use Rattle.s2_judge.proofs.judge.Judge.certificate.Goals as goal

pub returns-in-HardDecision : goal.returns-in-HardDecision
returns-in-HardDecision c =
    let inside = c.self.inside in
    ap Some c.unsplit.ensures
    ∙ ap₂ (λ (q : Rows) (soft : List ℤ). Some (unsplit_view q soft inside.bits)) c.matrix.ensures c.deref.ensures.value
    ∙ ap (view_by inside.certifier.rows inside.soft.items inside.bits inside.certifier.found) (sym c.in-HardDecision.is)
    ∙ ap (λ (j : Judging). j.certificate) c.self.view_is
