use Rattle.std.proofs.Common.{◌≡◌, ℕ, Option, ap, ◌∙◌, subst}
use Rattle.s2_rows.specs.Rows.{Rows}
use Rattle.s2_judge.specs.Deciding.{Decided, decided, IsShown}
use Rattle.s2_judging.specs.Judging.{Says}
use Rattle.s2_judging.proofs.JudgeLemmas.{says, shown}
use Rattle.s2_judging.proofs.decision.decision.Goals as goal

pub returns-clause-says : goal.returns-clause-says
returns-clause-says c =
    let d : Decided = decided c.args.matrix.now c.args.judge.now.tuning c.args.soft.now in
    let same : decided c.args.judge.now.rows c.args.judge.now.tuning c.args.soft.now ≡ d = ap (λ r. decided r c.args.judge.now.tuning c.args.soft.now) c.requires.rows in
    let word = c.word-word.result.now in
    let told = subst (λ (o : Option ℕ). Says c.judge-verdict.result c.args.matrix.now c.args.soft.now word o c.judgement.result.exit c.judgement.result.text) c.changed_by.ensures c.judgement.ensures.says in
    says c.args.hard c.args.matrix.now c.args.soft.now d c.judge-verdict.result word c.judgement.result.exit c.judgement.result.text (c.judge-verdict.ensures.verdict ∙ ap (λ x. x.verdict) same)
    (c.word-word.ensures.is ∙ (c.judge-verdict.ensures.bits ∙ ap (λ x. x.bits) same)) told

pub returns-clause-certificate : goal.returns-clause-certificate
returns-clause-certificate c =
    c.judge-verdict.ensures.certificate ∙ ap (λ r. (decided r c.args.judge.now.tuning c.args.soft.now).certificate) c.requires.rows

pub returns-clause-shown : goal.returns-clause-shown
returns-clause-shown c =
    let d : Decided = decided c.args.judge.now.rows c.args.judge.now.tuning c.args.soft.now in
    let P : Rows → Type 0 = λ r. IsShown r c.args.soft.now (decided r c.args.judge.now.tuning c.args.soft.now) in
    subst P c.requires.rows
    (shown c.args.judge.now.rows c.args.soft.now d c.judge-verdict.result c.judge-verdict.new.self.bits c.judge-verdict.new.self.certificate
    c.judge-verdict.ensures.verdict c.judge-verdict.ensures.bits c.judge-verdict.ensures.certificate c.judge-verdict.ensures.certified)
