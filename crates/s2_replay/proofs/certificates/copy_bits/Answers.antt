use Rattle.std.proofs.Common.{◌≡◌, false, length, arith, sym, ◌∙◌}
use Rattle.std.proofs.lemmas.List.{ext_get_or}
use Rattle.s2_replay.proofs.certificates.copy_bits.Goals as goal

pub returns : goal.returns
returns c =
    let long : length c.places.word ≡ length c.args.view.now.bits = c.places.invariant.size ∙ c.requires ∙ sym c.shape-shape.ensures.valid.bits_long in
    ext_get_or false _ _ long (λ k h. c.places.invariant.each k (omega (arith, h, c.places-test.false)))
