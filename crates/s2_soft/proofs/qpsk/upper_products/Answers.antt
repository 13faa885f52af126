use Rattle.std.proofs.Common.{ℕ, ◌<◌, replicate, arith}
use Rattle.std.proofs.lemmas.Simd.{get_or-replicate, Each1-from_get_or}
use Rattle.s2_bits.proofs.Unsigned.{asks}
use Rattle.s2_soft.proofs.Quotients.{products, product_lanes, quotients, quotient_lanes, quotient_small, same_lanes, word_fits}
use Rattle.s2_soft.proofs.qpsk.upper_products.Goals as goal
use mir.Syntax.{w16}
use mir.Val.{Fits}

pub nonzero_div-result : goal.nonzero_div-result
nonzero_div-result c =
    let xs = c.args.sizes in
    let f = c.args.factor in
    let small : f < 65536 = omega arith in
    let p = product_lanes f small xs c.fits-sizes.0 c.fits-sizes.1 in
    asks _ (products f xs) (replicate {A = ℕ} 8 65536) p.long (λ k lt. let is = get_or-replicate {A = ℕ} 8 k 65536 0 (omega (arith, p.long)) in omega (arith, is))

pub overflow_cast-result-2 : goal.overflow_cast-result-2
overflow_cast-result-2 c =
    let xs = c.args.sizes in
    let f = c.args.factor in
    let small : f < 65536 = omega arith in
    let q = quotient_lanes f small xs c.fits-sizes.0 c.fits-sizes.1 in
    Each1-from_get_or (Fits w16) (quotients f xs) 0 (λ k lt.
    let is = q.each k (omega (arith, q.long)) in
    let low = word_fits xs c.fits-sizes.0 c.fits-sizes.1 k (omega (arith, q.long)) in
    record { fits = omega (arith, is, quotient_small _ f low small) })

pub returns : goal.returns
returns c =
    let small : c.args.factor < 65536 = omega arith in
    same_lanes _ (quotients c.args.factor c.args.sizes) (quotient_lanes c.args.factor small c.args.sizes c.fits-sizes.0 c.fits-sizes.1)
