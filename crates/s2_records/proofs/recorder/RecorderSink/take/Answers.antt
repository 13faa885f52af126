use Rattle.std.proofs.Common.{◌≡◌, ◌∙◌, ap, sym, subst, refl, rules}
use Rattle.std.specs.Io.KnownBytes.{Appends}
use Rattle.s2_mode.specs.Pieces.{AppendsPart}
use Rattle.s2_report.specs.Figures.{saturated}
use Rattle.s2_stitch.specs.Records.{record_bytes}
use Rattle.s2_records.specs.Recording.{IsReadBack, record_of}
use Rattle.s2_records.proofs.Recorded.{none_of}
use Rattle.s2_records.proofs.recorder.RecorderSink.take.Goals as goal

pub returns-clause-takes : goal.returns-clause-takes
returns-clause-takes g c =
    let own = c.self.inside in
    let at : c.saturating_add-at.result ≡ saturated own.from c.args.start.at = c.saturating_add-at.ensures in
    let put : c.put_record.new.block.items ≡ record_bytes (record_of own.certificates own.seed c.saturating_add-at.result c.args.frame.now) = search rules in
    let back : IsReadBack own.certificates c.args.frame.now.certificate = search rules in
    let block : c.deref.result.now ≡ record_bytes (record_of own.certificates own.seed (saturated own.from c.args.start.at) c.args.frame.now) =
    c.deref.ensures.value ∙ put ∙ ap (λ n. record_bytes (record_of own.certificates own.seed n c.args.frame.now)) at in
    rw (sym c.self.view_is) (record {
      bytes = subst (λ b. Appends (g.W.CountedWrite.contents own.to) (g.W.CountedWrite.contents c.write_full.new.writer) b) block c.in_ok-write_full.ensures.bytes;
      read_back = back;
      counted = c.saturating_add-self-inside-2.ensures;
      same = (refl, refl, refl);
    })

pub returns-then-is_err-clause-fails : goal.returns-then-is_err-clause-fails
returns-then-is_err-clause-fails g c =
    let own = c.self.inside in
    let contents = g.W.CountedWrite.contents in
    subst (λ old. AppendsPart (record_bytes (record_of old.certificates old.seed (saturated old.from c.args.start.at) c.args.frame.now)) (contents old.to) (contents own.to)) c.self.view_is (none_of (record_of own.certificates own.seed (saturated own.from c.args.start.at) c.args.frame.now) (contents own.to))
