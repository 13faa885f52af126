use Rattle.std.proofs.Common.{ltb, get_or, min}
use mir.Syntax.{w32}
use Rattle.s2_bits.proofs.Unsigned.{choice, min_by}
use Rattle.s2_bits.proofs.lanes32.least.Goals as goal

pub returns : goal.returns
returns c =
    let a = c.args.a in
    let b = c.args.b in
    choice w32 4 ltb (λ k. min (get_or a k 0) (get_or b k 0)) a b a b c.fits-a.0 c.fits-b.0 c.fits-a.0 c.fits-b.0 (λ k lt. min_by (get_or a k 0) (get_or b k 0))
