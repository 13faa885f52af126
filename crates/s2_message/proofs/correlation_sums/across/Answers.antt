use Rattle.std.proofs.Common.{◌*ℤ◌, ◌∙◌, SFits, arith, rules, w16, w64}
use Rattle.std.proofs.lemmas.Int.{ints, fits_signed_from_abs}
use Rattle.s2_message.proofs.Products.{difference_held, factors_held}
use Rattle.s2_message.proofs.correlation_sums.across.Goals as goal

pub overflow_sub-result : goal.overflow_sub-result
overflow_sub-result c =
    let one = c.product.ensures.most in
    let other = c.product-2.ensures.most in
    fits_signed_from_abs w64 _ (omega (arith, ints, one, other))

pub returns-clause-is : goal.returns-clause-is
returns-clause-is c =
    let f_ri : SFits w16 c.args.r.i = search rules in
    let f_rq : SFits w16 c.args.r.q = search rules in
    let f_si : SFits w16 c.args.s.i = search rules in
    let f_sq : SFits w16 c.args.s.q = search rules in
    let one = c.product.ensures.is ∙ factors_held c.args.r.q c.args.s.i f_rq f_si in
    let other = c.product-2.ensures.is ∙ factors_held c.args.r.i c.args.s.q f_ri f_sq in
    difference_held c.product.result c.product-2.result (c.args.r.q *ℤ c.args.s.i) (c.args.r.i *ℤ c.args.s.q) one other c.product.ensures.most c.product-2.ensures.most

pub returns-clause-most : goal.returns-clause-most
returns-clause-most c =
    let one = c.product.ensures.most in
    let other = c.product-2.ensures.most in
    omega (arith, ints, one, other)
