use Rattle.std.proofs.Common.{◌∙◌, false, refl, subst, sym}
use Rattle.s2_stitch.specs.Recalling.{Recalling}
use Rattle.s2_stitch.specs.Sources.{Gives, RecordSource}
use Rattle.s2_stitch.specs.Stitching.{Supplies}
use Rattle.s2_stitch.proofs.StitchLemmas.{given_so, kept_so}
use Rattle.s2_stitch.proofs.recalling.RecallingSuppliedRecordSource.supply.Goals as goal

pub returns-then-is_ahead-clause-supplies : goal.returns-then-is_ahead-clause-supplies
returns-then-is_ahead-clause-supplies g c =
    subst (λ (r : Recalling g.row.D.Denot). Supplies c.args.at r r c.args.source.now c.args.source.now) c.self.view_is (kept_so c.args.at _ c.args.source.now (sym c.is_ahead.ensures ∙ c.if-is_ahead.true))

pub returns-clause-supplies : goal.returns-clause-supplies
returns-clause-supplies g c =
    let inside = c.self.inside in
    let old : Recalling g.row.D.Denot = record { decider = inside.decider; held = inside.held; is_recalled = inside.is_recalled } in
    let new : Recalling g.row.D.Denot = record { decider = inside.decider; held = c.next.result; is_recalled = false } in
    subst (λ (r : Recalling g.row.D.Denot). Supplies c.args.at r new c.args.source.now c.next.new.self) c.self.view_is
    (given_so c.args.at old new c.args.source.now c.next.new.self (sym c.is_ahead.ensures ∙ c.if-is_ahead.false) refl refl (subst (λ (s : RecordSource). Gives c.args.at s c.next.new.self c.next.result) c.take_back.ensures c.next.ensures))
