use Rattle.s2_modem.proofs.Names.{◌≡◌, length, sym, refl, ap, ◌∙◌, symbols_in, refilled, Link, Tuning, DeciderState, FrameOptions, decision_held, decision_with, frame_decision, frame_soft, soft_frame}
use Rattle.s2_modem.proofs.DecisionLemmas.{frame_decided}
use Rattle.s2_modem.proofs.decider.DeciderDecide.decide.Goals as goal

pub find_soft-requires-clause-frame : goal.find_soft-requires-clause-frame
find_soft-requires-clause-frame c = c.requires ∙ sym (ap (λ (l : DeciderState). symbols_in l.link.setup.mode) c.self.view_is)

pub returns-clause-last : goal.returns-clause-last
returns-clause-last c =
    let so = c.self.invariant in
    let inside = c.self.inside in
    let tuning : Tuning = inside.judge.tuning in
    let link : Link = record { setup = record { mode = inside.reader.mode; number = inside.reader.number; roll_off = inside.roll_off }; rows = inside.judge.rows } in
    let same = c.find_soft.ensures.same in
    let was = c.decide-verdict in
    let read = c.read-self-inside in
    let symbols = c.args.symbols.now in
    let before = inside.judge.soft in
    let values = refilled (length before) c.find_soft.new.soft before refl (c.find_soft.auto.soft ∙ ap length c.soft_mut.ensures.is) in
    let soft_is : was.new.self.soft ≡ frame_soft link tuning symbols =
    was.ensures.soft ∙ values ∙ c.find_soft.ensures.is ∙ ap (λ (o : FrameOptions). soft_frame inside.reader.mode inside.reader.number o symbols) so.options in
    let options = same.options ∙ so.options in
    sym (λ i. decision_held read.new.self.mode (c.soft.ensures.is i) (c.word.ensures.is i) was.new.self.certificate read.new.self.word read.result read.new.self.field)
    ∙ read.ensures.decides was.new.self.certificate
    ∙ (λ i. decision_with (same.mode i) (same.number i) (options i) symbols (c.soft.ensures.is i) was.result (c.word.ensures.is i) was.new.self.certificate (c.rounds.ensures i))
    ∙ frame_decided link tuning symbols was.new.self.soft _ was.result was.new.self.bits was.new.self.certificate was.new.self.rounds was.ensures.soft (sym was.ensures.soft ∙ soft_is) was.ensures.verdict was.ensures.bits was.ensures.certificate was.ensures.rounds
    ∙ ap (λ (l : DeciderState). frame_decision l.link l.tuning symbols) c.self.view_is
