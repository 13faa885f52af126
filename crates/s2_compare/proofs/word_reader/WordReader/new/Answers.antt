use Rattle.std.proofs.Common.{rules, ◌≡◌, false, length, sym, ap, ◌∙◌}
use Rattle.std.proofs.lemmas.List.{length-replicate}
use Rattle.s2_mode.specs.Shape.{Shape}
use Rattle.s2_compare.specs.Devices.{record_size}
use Rattle.s2_compare.specs.Readers.{form_by}
use Rattle.s2_compare.proofs.word_reader.WordReader.new.Goals as goal

pub invariant_of-result : goal.invariant_of-result
invariant_of-result c =
    let kind = c.in_ok-kind.kind in
    let form : form_by c.args.matrix.now.shape kind ≡ c.args.form.now = ap (λ (s : Shape). form_by s kind) c.requires ∙ c.in_ok-kind.ensures.form in
    let long : length c.in_ok-bytes.bytes.items ≡ c.record_size.result = search rules in
    record {
      kind_fits = c.in_ok-kind.ensures.fits c.args.matrix.now c.requires;
      bytes_fit = long ∙ c.record_size.ensures.is ∙ sym (ap record_size form);
      word_fits = ap length c.in_ok-word.ensures ∙ length-replicate c.bits.result false ∙ c.bits.ensures.is;
    }
