use Rattle.std.proofs.Common.{◌≡◌, List, Bool, false, sym, ap, subst, ◌∙◌}
use Rattle.s2_rows.specs.Rows.{Rows}
use Rattle.s2_matrix.specs.Code.{code_of, IsCodeword}
use Rattle.s2_check.specs.Cost.{IsMostLikely}
use Rattle.s2_check.specs.Verdicts.{is_certified}
use Rattle.s2_judge.specs.Deciding.{Decided, decided}
use Rattle.s2_judging.specs.Judging.{own_verdict}
use Rattle.s2_judging.proofs.JudgeLemmas.{says}
use Rattle.s2_judging.proofs.DemoLemmas.{own_certified, never_sole, own_broken}
use Rattle.s2_judging.proofs.decision.own_decision.Goals as goal

moved : (P : Rows → List Bool → Type 0) (r r' : Rows) (w w' : List Bool) → r ≡ r' → w ≡ w' → P r w → P r' w'
moved P r r' w w' rows same h = subst (λ (q : Rows). P q w') rows (subst (P r) same h)

pub judgement-requires-clause-likely : goal.judgement-requires-clause-likely
judgement-requires-clause-likely c e =
    let was = c.judge-verdict in
    let sure = sym (ap is_certified c.own_verdict.ensures ∙ own_certified was.result) ∙ e in
    moved (λ r w. IsMostLikely (code_of r) c.args.soft.now w) c.args.judge.now.rows c.args.matrix.now was.new.self.bits c.word.result.now c.requires.rows (sym c.word.ensures.is) (was.ensures.likely sure)

pub judgement-requires-clause-sole : goal.judgement-requires-clause-sole
judgement-requires-clause-sole c e = absurd (never_sole c.judge-verdict.result (sym c.own_verdict.ensures ∙ e))

pub judgement-requires-clause-codeword : goal.judgement-requires-clause-codeword
judgement-requires-clause-codeword c other =
    let was = c.judge-verdict in
    moved (λ r w. IsCodeword (code_of r) w) c.args.judge.now.rows c.args.matrix.now was.new.self.bits c.word.result.now c.requires.rows (sym c.word.ensures.is) (was.ensures.codeword (λ broken. other (c.own_verdict.ensures ∙ ap own_verdict broken)))

pub judgement-requires-clause-broken : goal.judgement-requires-clause-broken
judgement-requires-clause-broken c e codeword =
    let was = c.judge-verdict in
    was.ensures.broken (own_broken was.result (sym c.own_verdict.ensures ∙ e)) (moved (λ r w. IsCodeword (code_of r) w) c.args.matrix.now c.args.judge.now.rows c.word.result.now was.new.self.bits (sym c.requires.rows) c.word.ensures.is codeword)

pub returns : goal.returns
returns c =
    let d : Decided = decided c.args.matrix.now c.args.judge.now.tuning c.args.soft.now in
    let same : decided c.args.judge.now.rows c.args.judge.now.tuning c.args.soft.now ≡ d = ap (λ r. decided r c.args.judge.now.tuning c.args.soft.now) c.requires.rows in
    let own : Decided = record { verdict = own_verdict d.verdict; bits = d.bits; certificate = d.certificate } in
    says false c.args.matrix.now c.args.soft.now own c.own_verdict.result c.word.result.now c.judgement.result.exit c.judgement.result.text
    (c.own_verdict.ensures ∙ ap own_verdict (c.judge-verdict.ensures.verdict ∙ ap (λ x. x.verdict) same)) (c.word.ensures.is ∙ (c.judge-verdict.ensures.bits ∙ ap (λ x. x.bits) same)) c.judgement.ensures.says
