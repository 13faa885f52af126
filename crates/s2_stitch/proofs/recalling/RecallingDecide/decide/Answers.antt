use Rattle.std.proofs.Common.{◌∙◌, ap, sym}
use Rattle.s2_stitch.specs.Recalling.{Recalling, recalls}
use Rattle.s2_stitch.specs.Stitching.{own_rule, recall_rule}
use Rattle.s2_stitch.proofs.RecallLemmas.{decided_so, recalled_so}
use Rattle.s2_stitch.proofs.recalling.RecallingDecide.decide.Goals as goal

pub returns-then-holds-clause-last : goal.returns-then-holds-clause-last
returns-then-holds-clause-last g c =
    recalled_so g.D.Decide.last c.self.inside.decider (g.D.Decide.decide c.self.inside.decider) c.self.inside.held c.args.symbols.now (sym c.holds.ensures ∙ c.if-holds.true)
    ∙ ap (λ (r : Recalling g.row.D.Denot). recall_rule g.D.Decide.decide r c.args.symbols.now) c.self.view_is

pub returns-clause-last : goal.returns-clause-last
returns-clause-last g c =
    c.decide.ensures.last ∙ sym (decided_so (g.D.Decide.decide c.self.inside.decider) c.self.inside.held c.args.symbols.now (sym c.holds.ensures ∙ c.if-holds.false))
    ∙ ap (λ (r : Recalling g.row.D.Denot). recall_rule g.D.Decide.decide r c.args.symbols.now) c.self.view_is

pub returns-clause-same : goal.returns-clause-same
returns-clause-same g c = ap (λ r. recalls r c.self.inside.held) c.decide.ensures.same ∙ ap (recall_rule g.D.Decide.decide) c.self.view_is

pub returns-clause-unaided : goal.returns-clause-unaided
returns-clause-unaided g c = c.decide.ensures.same ∙ ap (own_rule g.D.Decide.decide) c.self.view_is
