use Rattle.std.proofs.Common.{eqb, get_or, cond, refl}
use mir.Syntax.{w32}
use Rattle.s2_bits.proofs.Unsigned.{choice}
use Rattle.s2_bits.proofs.lanes32.where_same.Goals as goal

pub returns : goal.returns
returns c =
    let a = c.args.a in
    let b = c.args.b in
    let x = c.args.x in
    let y = c.args.y in
    choice w32 4 eqb (λ k. cond (eqb (get_or a k 0) (get_or b k 0)) (get_or x k 0) (get_or y k 0)) a b x y c.fits-a.0 c.fits-b.0 c.fits-x.0 c.fits-y.0 (λ k lt. refl)
