use Rattle.std.proofs.Common.{◌≡◌, ◌∙◌, ◌++◌, length, take, drop, ap, refl, rules, subst, sym}
use Rattle.s2_certfile.specs.Format.{file_of_bytes}
use Rattle.s2_check.proofs.Lists.{refilled}
use Rattle.s2_message.specs.Decisions.{soft_frame}
use Rattle.s2_message.specs.Reading.{DecidesBy}
use Rattle.s2_stitch.specs.Frames.{IsFrameOf, RecordedFrame, certificate_of, file_in, shown_decision, terms_by}
use Rattle.s2_stitch.specs.Records.{Record}
use Rattle.s2_stitch.proofs.FrameLemmas.{decided_by, same_reader}
use Rattle.s2_stitch.proofs.made.made_frame.Goals as goal

pub returns-clause-makes : goal.returns-clause-makes
returns-clause-makes c =
    let rows = c.args.matrix.now in
    let old = c.args.reader.now in
    let mid = c.find_soft.new.self in
    let new = c.read-decided.new.self in
    let r = c.record.inside in
    let symbols = c.args.symbols.items in
    let vec = c.in_ok-soft.soft in
    let lent = c.find_soft.new.soft in
    let soft = take vec.len (lent ++ drop (length lent) vec.items) in
    let message = c.in_ok-message.message.items in
    let field = c.in_ok-field.field.items in
    let d = c.read-decided.result in
    let own : Record = record { at = r.at; seal = r.seal; rounds = r.rounds; verdict = r.verdict; bits = r.word; certificate = r.certificate.items } in
    let frame : RecordedFrame = record { at = r.at; symbols = symbols; decision = shown_decision soft r.word (certificate_of rows c.args.usable.certificate) message d field; field = field } in
    let long : length lent ≡ length vec.items = search rules in
    let soft_is = refilled vec.len lent vec.items vec.ok.0 long ∙ c.find_soft.ensures.is ∙ ap (soft_frame old.mode old.number old.options) c.deref.ensures.value in
    let decides = subst (λ s. DecidesBy mid new s soft c.args.verdict r.word r.rounds d) c.deref-3.ensures.value (subst (λ s. DecidesBy mid new c.deref-3.result.now s c.args.verdict r.word r.rounds d) c.deref-4.ensures.value c.read-decided.ensures.decides) in
    let file_is = c.requires.certificate ∙ ap (λ (x : Record). file_in (file_of_bytes x.certificate)) (sym c.record.view_is) in
    let is = decided_by rows c.args.seed old mid new c.args.verdict own symbols soft c.args.usable.certificate message d field c.find_soft.ensures.same soft_is file_is decides (c.in_ok-message.ensures.items ∙ c.message.ensures) (c.in_ok-field.ensures.items ∙ c.field.ensures) in
    let verdict_is = ap (λ (x : Record). x.verdict) c.record.view_is ∙ c.requires.verdict in
    (refl, subst (λ (x : Record). IsFrameOf (terms_by rows c.args.seed old) x frame) c.record.view_is (record { place = refl; decided = (c.args.verdict, verdict_is, is); sealed = search (rules, c.deref-2.ensures.value) }))

pub returns-clause-same : goal.returns-clause-same
returns-clause-same c = same_reader _ _ _ c.find_soft.ensures.same c.read-decided.ensures.same
