use Rattle.std.proofs.Common.{◌≡◌, ◌*◌, ◌/◌, min, cond, eqb, ap, ◌∙◌}
use Rattle.s2_bits.specs.Lanes.{lane}
use Rattle.s2_bits.specs.Lanes16.{signed16, minus16, magnitude16}
use Rattle.s2_soft.specs.Divisors.{factor_of}
use Rattle.s2_soft.proofs.Words.{value_size, value_word_is}
use Rattle.s2_soft.proofs.Quotients.{word_fits}
use Rattle.s2_soft.proofs.qpsk.component_values.Goals as goal

pub returns : goal.returns
returns c = λ d known factor k lt.
    let v = lane c.args.components k in
    let size : lane c.magnitude.result k ≡ magnitude16 v = c.magnitude.ensures.each k lt in
    let sizes : lane c.least-sizes.result k ≡ value_size (factor_of d) (magnitude16 v) = c.least-sizes.ensures.each k lt ∙ (λ i. min ((c.upper_products.ensures.each k lt ∙ (λ i. size i * factor i / 65536)) i) (c.all.ensures.each k lt i)) in
    ap signed16 (c.where_same.ensures.each k lt
    ∙ (λ i. cond (eqb (c.sign.ensures.each k lt i) (c.all-2.ensures.each k lt i)) ((c.minus.ensures.each k lt ∙ (λ i. minus16 (c.all-3.ensures.each k lt i) (sizes i))) i) (sizes i)))
    ∙ value_word_is d known v (word_fits c.args.components c.fits-components.0 c.fits-components.1 k lt)
