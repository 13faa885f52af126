use Rattle.std.proofs.Common.{◌≡◌, ◌∙◌, OnErr, sym, subst, refl}
use Rattle.std.proofs.lemmas.Result.{on_err_weaker, on_ok_weaker}
use Rattle.std.specs.Io.KnownBytes.{Appends}
use Rattle.s2_mode.specs.Pieces.{AppendsPart}
use Rattle.s2_stitch.specs.Records.{record_bytes}
use Rattle.s2_records.specs.Recording.{end_record}
use Rattle.s2_records.proofs.Recorded.{none_of}
use Rattle.s2_records.proofs.recorder.Recorder.finish.Goals as goal

pub returns-in-Ok-clause-gains : goal.returns-in-Ok-clause-gains
returns-in-Ok-clause-gains g c =
    let own = c.self.inside in
    let contents = g.W.CountedWrite.contents in
    let block : c.deref.result.now ≡ record_bytes (end_record own.seed c.args.bits c.args.last) = c.deref.ensures.value ∙ c.in-Ok.ensures in
    rw (sym c.self.view_is) (on_ok_weaker c.write_full.result (λ wrote. record {
      bytes = subst (λ b. Appends (contents own.to) (contents c.write_full.new.writer) b) block wrote;
      same = (refl, refl, refl, refl);
    }) c.write_full.ensures.bytes)

pub returns-in-Ok-clause-fails : goal.returns-in-Ok-clause-fails
returns-in-Ok-clause-fails g c =
    let own = c.self.inside in
    let contents = g.W.CountedWrite.contents in
    let block : c.deref.result.now ≡ record_bytes (end_record own.seed c.args.bits c.args.last) = c.deref.ensures.value ∙ c.in-Ok.ensures in
    subst (λ old. OnErr c.write_full.result (AppendsPart (record_bytes (end_record old.seed c.args.bits c.args.last)) (contents old.to) (contents c.write_full.new.writer))) c.self.view_is
    (on_err_weaker c.write_full.result (λ wrote. subst (λ b. AppendsPart b (contents own.to) (contents c.write_full.new.writer)) block wrote) c.write_full.ensures.part)

pub returns-in-Err-clause-fails : goal.returns-in-Err-clause-fails
returns-in-Err-clause-fails g c =
    let own = c.self.inside in
    let contents = g.W.CountedWrite.contents in
    subst (λ old. AppendsPart (record_bytes (end_record old.seed c.args.bits c.args.last)) (contents old.to) (contents own.to)) c.self.view_is (none_of (end_record own.seed c.args.bits c.args.last) (contents own.to))
