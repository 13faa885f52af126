use Rattle.std.proofs.Common.{ℕ, ◌∙◌, List, ap, sym}
use Rattle.std.proofs.lemmas.Bool.{eqb-true}
use Rattle.std.proofs.lemmas.List.{nil_from_length}
use Rattle.s2_certfile.specs.Format.{file_of_bytes}
use Rattle.s2_stitch.specs.Frames.{file_in}
use Rattle.s2_stitch.proofs.FrameLemmas.{no_file}
use Rattle.s2_stitch.proofs.next.certificate_in.Goals as goal

pub returns-then-is_empty-clause-value : goal.returns-then-is_empty-clause-value
returns-then-is_empty-clause-value c =
    sym no_file ∙ ap (λ (l : List ℕ). file_in (file_of_bytes l)) (sym (nil_from_length c.args.bytes.now (eqb-true _ _ (sym c.is_empty.ensures ∙ c.if-is_empty.true))))
