use Rattle.std.proofs.Common.{OnOk, OnErr, List, Bool, length, refl, ap, ◌∙◌, subst}
use Rattle.std.specs.Io.KnownBytes.{Appends}
use Rattle.s2_mode.specs.Pieces.{AppendsPart}
use Rattle.s2_certfile.specs.Field.{bytes_of_bits}
use Rattle.s2_check.proofs.Lists.{refilled}
use Rattle.s2_scramble.specs.Baseband.{scrambled}
use Rattle.s2_records.proofs.bbframes.write_message.Goals as goal

pub returns-clause-bytes : goal.returns-clause-bytes
returns-clause-bytes g c =
    let before = c.args.bits.now in
    let copied = refilled (length before) c.copy_from_slice.new.self before refl (c.copy_from_slice.ensures.len ∙ ap length c.truths_mut.ensures.value) ∙ c.copy_from_slice.ensures.after in
    let same = c.bb_xor_in_place.ensures.is ∙ ap scrambled copied in
    subst (λ (bits : List Bool). OnOk c.write_bits.result (Appends (g.W.CountedWrite.contents c.args.out.now) (g.W.CountedWrite.contents c.write_bits.new.out) (bytes_of_bits bits))) same c.write_bits.ensures.bytes

pub returns-clause-part : goal.returns-clause-part
returns-clause-part g c =
    let before = c.args.bits.now in
    let copied = refilled (length before) c.copy_from_slice.new.self before refl (c.copy_from_slice.ensures.len ∙ ap length c.truths_mut.ensures.value) ∙ c.copy_from_slice.ensures.after in
    let same = c.bb_xor_in_place.ensures.is ∙ ap scrambled copied in
    subst (λ (bits : List Bool). OnErr c.write_bits.result (AppendsPart (bytes_of_bits bits) (g.W.CountedWrite.contents c.args.out.now) (g.W.CountedWrite.contents c.write_bits.new.out))) same c.write_bits.ensures.part
