use Rattle.std.proofs.Common.{◌≡◌, length, sym, ap, ◌∙◌}
use Rattle.s2_matrix.specs.Code.{Code, code_of, first_edge}
use Rattle.s2_check.specs.Views.{View, by_group}
use Rattle.s2_check.proofs.SameCode.{same_code}
use Rattle.s2_check.proofs.view.CertView.is_of.Goals as goal

pub returns : goal.returns
returns c =
    let r = c.args.matrix.now in
    let own = c.self.inside.matrix.now in
    let rows = ap (λ (v : View). by_group v.rows) c.self.view_is in (
      λ yes'. (
          let same : by_group own ≡ by_group r = c.is_same.ensures.0 yes' in
          let codes : code_of own ≡ code_of r = same_code own r c.self.invariant.0.shaped.group_some same in
          let shares = ap (λ (v : View). length v.shares) c.self.view_is in
          record { shape = sym rows ∙ same; shares = sym shares ∙ c.self.invariant.0.shares_long ∙ ap (λ (k : Code). first_edge k k.checks) codes }
          ),
      λ own. c.is_same.ensures.1 (rows ∙ own.shape),
    )
