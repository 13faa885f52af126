use Rattle.std.proofs.Common.{OnOk, OnErr, refl, ap, ◌∙◌, subst}
use Rattle.std.proofs.lemmas.Result.{err_from_is_err_and}
use Rattle.s2_records.specs.Records.{GainsBbframe, GainsBbframePart}
use Rattle.s2_records.proofs.Written.{gap_fails, frame_taken, frame_fails}
use Rattle.s2_records.proofs.bbframes.BbframesSink.take.Goals as goal

pub returns-in_err-write_gap-clause-fails : goal.returns-in_err-write_gap-clause-fails
returns-in_err-write_gap-clause-fails g c =
    let none = c.deref.ensures.value ∙ c.self.invariant.1 in
    let failed = err_from_is_err_and c.from_residual.result c.from_residual.ensures.1 in
    let part = gap_fails c.self.inside.mode c.args.frame.now c.args.start.after_gap c.deref.result.now _ _ none c.in_err-write_gap.ensures.part in
    rw failed.1 (subst (λ old. GainsBbframePart g.W.CountedWrite.contents old (record { mode = c.self.inside.mode; to = c.write_gap.new.out }) c.args.start c.args.frame.now) c.self.view_is (refl, part))

pub returns-clause-takes : goal.returns-clause-takes
returns-clause-takes g c =
    let none = c.deref.ensures.value ∙ c.self.invariant.1 in
    let none' = c.deref-2.ensures.value ∙ c.self.invariant.1 in
    let same = ap (λ d. d.message) c.frame.view_is in
    subst (λ old. OnOk c.write_frame.result (GainsBbframe g.W.CountedWrite.contents old (record { mode = c.self.inside.mode; to = c.write_frame.new.out }) c.args.start c.args.frame.now)) c.self.view_is (frame_taken c.self.inside.mode c.args.frame.now c.args.start.after_gap c.has_bbframe-delivered.result c.frame.inside.message.now c.deref.result.now c.deref-2.result.now _ _ _ none c.has_bbframe-delivered.ensures.is same none' c.in_ok-write_gap.ensures.bytes c.write_frame.result c.write_frame.ensures.bytes)

pub returns-clause-fails : goal.returns-clause-fails
returns-clause-fails g c =
    let none = c.deref.ensures.value ∙ c.self.invariant.1 in
    let none' = c.deref-2.ensures.value ∙ c.self.invariant.1 in
    let same = ap (λ d. d.message) c.frame.view_is in
    subst (λ old. OnErr c.write_frame.result (GainsBbframePart g.W.CountedWrite.contents old (record { mode = c.self.inside.mode; to = c.write_frame.new.out }) c.args.start c.args.frame.now)) c.self.view_is (frame_fails c.self.inside.mode c.args.frame.now c.args.start.after_gap c.has_bbframe-delivered.result c.frame.inside.message.now c.deref.result.now c.deref-2.result.now _ _ _ none c.has_bbframe-delivered.ensures.is same none' c.in_ok-write_gap.ensures.bytes c.write_frame.result c.write_frame.ensures.part)
