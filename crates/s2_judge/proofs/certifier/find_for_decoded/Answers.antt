use Rattle.std.proofs.Common.{Some, None, cond, ne_eqb, eq-eqb, sym, ap, subst, ◌∙◌}
use Rattle.s2_rows.specs.Rows.{Rows}
use Rattle.s2_check.specs.Strict.{IsStrict}
use Rattle.s2_split.specs.Making.{shared_views}
use Rattle.s2_settle.specs.Settled.{settled}
use Rattle.s2_settle.specs.Holding.{view_by as view_settled}
use Rattle.s2_judge.proofs.Certificates.{decoded_without, decoded_with, decoded_by_ascent, found_nothing, strict_made, strict_settled}
use Rattle.s2_judge.proofs.certifier.find_for_decoded.Goals as goal

pub returns-then-certify_codeword-clause-view : goal.returns-then-certify_codeword-clause-view
returns-then-certify_codeword-clause-view c =
    let r = c.args.maker.now.rows in
    let soft = c.args.soft.now in
    let word = c.args.codeword.now in
    decoded_without r c.args.passes soft word (eq-eqb c.args.passes 0 c.if-passes-eq0.true) ∙ ap (shared_views r soft word) (sym c.certify_codeword.ensures.made)

pub returns-then-passes-eq0-clause-view : goal.returns-then-passes-eq0-clause-view
returns-then-passes-eq0-clause-view c =
    let r = c.args.maker.now.rows in
    let soft = c.args.soft.now in
    let word = c.args.codeword.now in
    let maker = c.certify_codeword in
    let none = found_nothing maker.result maker.new.self.made maker.ensures.found c.if-certify_codeword.false in
    decoded_without r c.args.passes soft word (eq-eqb c.args.passes 0 c.if-passes-eq0.true) ∙ ap (shared_views r soft word) (sym maker.ensures.made ∙ none)

pub returns-then-certify-clause-view : goal.returns-then-certify-clause-view
returns-then-certify-clause-view c =
    let r = c.args.maker.now.rows in
    let soft = c.args.soft.now in
    let word = c.args.codeword.now in
    let passes = c.args.passes in
    let ascent = c.certify.new.self in
    let is = ap (λ (q : Rows). settled q soft word passes) (sym c.requires.ascent) ∙ c.certify.ensures.is ∙ ap (λ b. cond b (Some (view_settled ascent soft word)) None) c.if-certify.true in
    decoded_by_ascent r passes soft word ascent (ne_eqb passes 0 c.if-passes-eq0.false) (c.certify.ensures.rows ∙ c.requires.ascent) is

pub returns-clause-view : goal.returns-clause-view
returns-clause-view c =
    let r = c.args.maker.now.rows in
    let soft = c.args.soft.now in
    let word = c.args.codeword.now in
    let passes = c.args.passes in
    let is = ap (λ (q : Rows). settled q soft word passes) (sym c.requires.ascent) ∙ c.certify.ensures.is ∙ ap (λ b. cond b (Some (view_settled c.certify.new.self soft word)) None) c.if-certify.false in
    decoded_with r passes soft word (ne_eqb passes 0 c.if-passes-eq0.false) ∙ is

pub returns-then-certify_codeword-clause-strict : goal.returns-then-certify_codeword-clause-strict
returns-then-certify_codeword-clause-strict c =
    let maker = c.certify_codeword in
    strict_made c.args.maker.now.rows c.args.soft.now c.args.codeword.now maker.new.self c.is_strict.result maker.ensures.rows maker.ensures.rests c.is_strict.ensures

pub returns-then-certify-clause-strict : goal.returns-then-certify-clause-strict
returns-then-certify-clause-strict c =
    let r = c.args.maker.now.rows in
    let soft = c.args.soft.now in
    let word = c.args.codeword.now in
    let ascent = c.certify.new.self in
    let rows = c.requires.ascent in
    let strict = subst (λ (q : Rows). IsStrict q (view_settled ascent soft word)) rows (c.certify.ensures.strict c.if-certify.true) in
    strict_settled r soft word ascent (c.certify.ensures.rows ∙ rows) strict
