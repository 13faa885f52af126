use Rattle.std.proofs.Common.{OnOk, OnErr, subst}
use Rattle.s2_records.specs.Sent.{GainsOf, GainsPartOf}
use Rattle.s2_records.specs.Vectors.{sent_labels}
use Rattle.s2_records.proofs.LabelLemmas.{same_taken, same_fails}
use Rattle.s2_records.proofs.labels.LabelsSendSink.take.Goals as goal

pub returns-clause-takes : goal.returns-clause-takes
returns-clause-takes g c =
    subst (λ old. OnOk c.write_labels.result (GainsOf g.W.CountedWrite.contents sent_labels old (record { mode = c.self.inside.mode; to = c.write_labels.new.out }) c.args.codeword.now)) c.self.view_is
    (same_taken _ c.self.inside.mode c.write_labels.result c.write_labels.ensures.bytes)

pub returns-clause-fails : goal.returns-clause-fails
returns-clause-fails g c =
    subst (λ old. OnErr c.write_labels.result (GainsPartOf g.W.CountedWrite.contents sent_labels old (record { mode = c.self.inside.mode; to = c.write_labels.new.out }) c.args.codeword.now)) c.self.view_is
    (same_fails _ c.self.inside.mode c.write_labels.result c.write_labels.ensures.part)
