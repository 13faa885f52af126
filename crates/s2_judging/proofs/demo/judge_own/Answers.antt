use Rattle.std.proofs.Common.{List, ℤ, subst, ◌∙◌}
use Rattle.s2_judge.specs.Deciding.{decided}
use Rattle.s2_judging.specs.Judging.{SaysOwn}
use Rattle.s2_judging.proofs.DemoLemmas.{own_answers}
use Rattle.s2_judging.proofs.demo.judge_own.Goals as goal

pub returns-clause-answers : goal.returns-clause-answers
returns-clause-answers c =
    let rows = c.args.judged.now.matrix in
    let tuning = c.in-Ok.judge.tuning in
    let p = c.own_decision.result in
    own_answers rows tuning c.args.judged.now.soft.items p (c.in-Ok.ensures.tuning ∙ c.default_tuning.ensures) (subst (λ (xs : List ℤ). SaysOwn (decided rows tuning xs) rows xs p.exit p.text) c.deref.ensures.value c.own_decision.ensures)

pub returns-clause-read : goal.returns-clause-read
returns-clause-read c = λ e. absurd (cc)

pub returns-clause-write : goal.returns-clause-write
returns-clause-write c = λ e. absurd (cc)

pub returns-in_default-clause-read : goal.returns-in_default-clause-read
returns-in_default-clause-read c = λ e. absurd (cc)

pub returns-in_default-clause-write : goal.returns-in_default-clause-write
returns-in_default-clause-write c = λ e. absurd (cc)
