use Rattle.std.proofs.Common.{◌∙◌, ◌*ℤ◌, SFits, w16, rules}
use Rattle.s2_equalize.proofs.Components.{sum_held, part_held}
use Rattle.s2_equalize.proofs.frame.imaginary.Goals as goal

pub returns-clause-is : goal.returns-clause-is
returns-clause-is c =
    let s = c.args.symbol in
    let f = c.args.factor in
    let fits_i : SFits w16 s.i = search rules in
    let fits_q : SFits w16 s.q = search rules in
    let one = c.product.ensures.is ∙ part_held s.q f.re fits_q c.requires.re in
    let other = c.product-2.ensures.is ∙ part_held s.i f.im fits_i c.requires.im in
    sum_held c.product.result c.product-2.result (s.q *ℤ f.re) (s.i *ℤ f.im) one other c.product.ensures.most c.product-2.ensures.most
