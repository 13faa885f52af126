use Rattle.s2_modem.proofs.Names.{sym, ap, subst, ◌∙◌, Mode, shape_in, None, Broken, Answer, NoWord, IsUndecided, decision_held}
use Rattle.s2_modem.proofs.DecisionLemmas.{undecided}
use Rattle.s2_modem.proofs.decider.Decider.new.Goals as goal

pub returns-clause-undecided : goal.returns-clause-undecided
returns-clause-undecided c =
    let m = c.mode-mode.result in
    let judge = c.in_ok-new in
    let reader = c.in_ok-reader in
    let word = reader.reader.word in
    let field = reader.reader.field in
    let none : Answer = record { verdict = Broken; outcome = NoWord; header = None; figures = None; energy = 0; turn = 0 } in
    let here = undecided m c.matrix.result.now judge.field-0.soft judge.field-0.bits word judge.field-0.certificate none field c.k-k.ensures.sizes
    (c.matrix.ensures.shape ∙ ap shape_in (sym c.mode-mode.ensures.is)) judge.ensures.soft judge.ensures.bits judge.ensures.none reader.ensures.zeros in
    let held : IsUndecided m (decision_held reader.reader.mode judge.field-0.soft judge.field-0.bits judge.field-0.certificate word none field) =
    subst (λ (x : Mode). IsUndecided m (decision_held x judge.field-0.soft judge.field-0.bits judge.field-0.certificate word none field)) (sym reader.ensures.mode) here in
    subst (λ (x : Mode). IsUndecided x (decision_held reader.reader.mode judge.field-0.soft judge.field-0.bits judge.field-0.certificate word none field)) c.mode-mode.ensures.is held
