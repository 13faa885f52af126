use Rattle.std.proofs.Common.{refl, sym, ◌∙◌}
use Rattle.std.proofs.lemmas.Slice.Eq.{slice_eq-Decides}
use Rattle.s2_audit.proofs.FrameLemmas.{decides_bits}
use Rattle.s2_audit.proofs.frame.is_same_word.Goals as goal

pub returns : goal.returns
returns c =
    let same = slice_eq-Decides (decides_bits _ refl refl refl refl) _ _ _ c.eq.ensures in
    (λ yes. sym c.truths.ensures ∙ same.0 yes ∙ c.truths-2.ensures, λ is. same.1 (c.truths.ensures ∙ is ∙ sym c.truths-2.ensures))
