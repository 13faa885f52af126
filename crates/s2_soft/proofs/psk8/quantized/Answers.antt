use Rattle.std.proofs.Common.{◌≡◌, ◌/◌, ◌%◌, min, cond, eqb, ap, sym, ◌∙◌, arith}
use Rattle.std.proofs.lemmas.List.{get_or-map}
use Rattle.s2_bits.specs.Lanes.{lane}
use Rattle.s2_bits.specs.Lanes16.{signed16}
use Rattle.s2_bits.specs.Lanes32.{minus32}
use Rattle.s2_soft.proofs.FourWords.{word_fits}
use Rattle.s2_soft.proofs.Differences.{soft_size, soft_word, soft_word_is}
use Rattle.s2_soft.proofs.psk8.quantized.Goals as goal

pub returns : goal.returns
returns c = λ d known power k lt.
    let x = lane c.args.differences k in
    let quotient = c.shifted.ensures.each k lt ∙ (λ t. c.magnitude.ensures.each k lt t / sym power t) in
    let sizes : lane c.least-sizes.result k ≡ soft_size d x = c.least-sizes.ensures.each k lt ∙ (λ t. min (quotient t) (c.all.ensures.each k lt t)) in
    let other = c.minus.ensures.each k lt ∙ (λ t. minus32 (c.all-3.ensures.each k lt t) (sizes t)) in
    let words = c.where_same-words.ensures.each k lt ∙ (λ t. cond (eqb (c.quotient-negative.ensures.each k lt t) (c.all-2.ensures.each k lt t)) (other t) (sizes t)) in
    let long = c.lower.ensures.long in
    let cast = get_or-map (λ x. x) c.lower.result k 0 0 (omega (arith, long)) in
    let low : lane c.lower.result k ≡ soft_word d x = c.lower.ensures.each k lt ∙ (λ t. words t % 65536) in
    ap signed16 (cast ∙ low) ∙ soft_word_is d known x (word_fits c.args.differences c.fits-differences.0 c.fits-differences.1 k lt)
