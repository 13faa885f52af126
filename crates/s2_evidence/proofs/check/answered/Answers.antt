use Rattle.std.proofs.Common.{refl, sym, subst, inl, inr}
use Rattle.std.proofs.lemmas.Bool.{true≢false}
use Rattle.s2_check.specs.Views.{View}
use Rattle.s2_evidence.specs.Checking.{SaysAnswer}
use Rattle.s2_evidence.proofs.check.answered.Goals as goal

pub returns-in-Some : goal.returns-in-Some
returns-in-Some c =
    inl (c.in-Some.ensures.found.0 refl, subst (λ (v : View). SaysAnswer c.args.matrix.now v c.examined.result.exit c.examined.result.text) c.in-Some.ensures.value c.examined.ensures)

pub returns-in-None : goal.returns-in-None
returns-in-None c = inr (record { unsuited = λ suits. true≢false (sym (c.in-None.ensures.found.1 suits)); line = c.answer_line.ensures; answer_is_no = refl })
