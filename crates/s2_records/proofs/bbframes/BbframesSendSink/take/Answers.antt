use Rattle.std.proofs.Common.{◌≡◌, ◌<◌, ◌≤◌, OnOk, OnErr, length, take, ap, ◌∙◌, subst, arith}
use Rattle.s2_mode.specs.Mode.{kbch_of}
use Rattle.s2_records.specs.Sent.{GainsOf, GainsPartOf, sent_bbframe}
use Rattle.s2_records.proofs.BothEnds.{zeros_taken, zeros_fail, message_taken, message_fails}
use Rattle.s2_records.proofs.bbframes.BbframesSendSink.take.Goals as goal

pub returns-then-len-kbch-clause-takes : goal.returns-then-len-kbch-clause-takes
returns-then-len-kbch-clause-takes g c =
    let none = c.deref.ensures.value ∙ c.self.invariant.1 in
    let short : length c.args.codeword.now < kbch_of c.self.inside.mode = omega (arith, c.len.ensures, c.kbch-kbch.ensures.is) in
    subst (λ old. OnOk c.write_full.result (GainsOf g.W.CountedWrite.contents sent_bbframe old (record { mode = c.self.inside.mode; to = c.write_full.new.writer }) c.args.codeword.now)) c.self.view_is
    (zeros_taken c.self.inside.mode c.args.codeword.now _ _ c.write_full.result c.deref.result.now short none c.write_full.ensures.bytes)

pub returns-then-len-kbch-clause-fails : goal.returns-then-len-kbch-clause-fails
returns-then-len-kbch-clause-fails g c =
    let none = c.deref.ensures.value ∙ c.self.invariant.1 in
    let short : length c.args.codeword.now < kbch_of c.self.inside.mode = omega (arith, c.len.ensures, c.kbch-kbch.ensures.is) in
    subst (λ old. OnErr c.write_full.result (GainsPartOf g.W.CountedWrite.contents sent_bbframe old (record { mode = c.self.inside.mode; to = c.write_full.new.writer }) c.args.codeword.now)) c.self.view_is
    (zeros_fail c.self.inside.mode c.args.codeword.now _ _ c.write_full.result c.deref.result.now short none c.write_full.ensures.part)

pub returns-clause-takes : goal.returns-clause-takes
returns-clause-takes g c =
    let long : kbch_of c.self.inside.mode ≤ length c.args.codeword.now = omega (arith, c.len.ensures, c.kbch-kbch.ensures.is) in
    let same : take c.kbch-kbch.result c.truths.result.now ≡ take (kbch_of c.self.inside.mode) c.args.codeword.now =
    ap (λ n. take n c.truths.result.now) c.kbch-kbch.ensures.is ∙ ap (take (kbch_of c.self.inside.mode)) c.truths.ensures in
    subst (λ old. OnOk c.write_message.result (GainsOf g.W.CountedWrite.contents sent_bbframe old (record { mode = c.self.inside.mode; to = c.write_message.new.out }) c.args.codeword.now)) c.self.view_is
    (message_taken c.self.inside.mode c.args.codeword.now _ _ c.write_message.result (take c.kbch-kbch.result c.truths.result.now) long same c.write_message.ensures.bytes)

pub returns-clause-fails : goal.returns-clause-fails
returns-clause-fails g c =
    let long : kbch_of c.self.inside.mode ≤ length c.args.codeword.now = omega (arith, c.len.ensures, c.kbch-kbch.ensures.is) in
    let same : take c.kbch-kbch.result c.truths.result.now ≡ take (kbch_of c.self.inside.mode) c.args.codeword.now =
    ap (λ n. take n c.truths.result.now) c.kbch-kbch.ensures.is ∙ ap (take (kbch_of c.self.inside.mode)) c.truths.ensures in
    subst (λ old. OnErr c.write_message.result (GainsPartOf g.W.CountedWrite.contents sent_bbframe old (record { mode = c.self.inside.mode; to = c.write_message.new.out }) c.args.codeword.now)) c.self.view_is
    (message_fails c.self.inside.mode c.args.codeword.now _ _ c.write_message.result (take c.kbch-kbch.result c.truths.result.now) long same c.write_message.ensures.part)
