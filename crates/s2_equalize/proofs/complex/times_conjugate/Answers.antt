use Rattle.std.proofs.Common.{◌∙◌, ◌*ℤ◌, w64, arith}
use Rattle.std.proofs.lemmas.Int.{ints, fits_signed_from_abs}
use Rattle.s2_equalize.proofs.Sizes.{difference_held, factors_held, sum_held}
use Rattle.s2_equalize.proofs.complex.times_conjugate.Goals as goal

pub overflow_sub-result : goal.overflow_sub-result
overflow_sub-result c =
    let one = c.product-3.ensures.most in
    let other = c.product-4.ensures.most in
    fits_signed_from_abs w64 _ (omega (arith, ints, one, other))

pub returns : goal.returns
returns c =
    let a = c.args.a in
    let b = c.args.b in
    let one = c.product.ensures.is ∙ factors_held a.re b.re c.requires.a.re c.requires.b.re in
    let two = c.product-2.ensures.is ∙ factors_held a.im b.im c.requires.a.im c.requires.b.im in
    let three = c.product-3.ensures.is ∙ factors_held a.im b.re c.requires.a.im c.requires.b.re in
    let four = c.product-4.ensures.is ∙ factors_held a.re b.im c.requires.a.re c.requires.b.im in
    let re = sum_held c.product.result c.product-2.result (a.re *ℤ b.re) (a.im *ℤ b.im) one two c.product.ensures.most c.product-2.ensures.most in
    let im = difference_held c.product-3.result c.product-4.result (a.im *ℤ b.re) (a.re *ℤ b.im) three four c.product-3.ensures.most c.product-4.ensures.most in
    λ t. record { re = re t; im = im t }
