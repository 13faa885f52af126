use Rattle.std.proofs.Common.{arith, ◌-◌, ◌∙◌, sym}
use Rattle.std.proofs.lemmas.List.{get_or_default}
use Rattle.s2_bch.proofs.Locators.{get_or-shift-below, get_or-shift-above, get_or-past}
use Rattle.s2_bch.proofs.berlekamp_massey.shifted.Goals as goal

pub returns-then-i-by : goal.returns-then-i-by
returns-then-i-by g c =
    let f = g.F.Field in
    c.zero.ensures ∙ sym (get_or-shift-below f.field g.met.F.Field.laws c.args.by c.args.polynomial.now c.args.i c.if-i-by.true)

pub returns-then-j-polynomial : goal.returns-then-j-polynomial
returns-then-j-polynomial g c =
    let f = g.F.Field in
    c.index-polynomial-j.is
    ∙ get_or_default c.args.polynomial.now _ _ f.field.zero c.if-j-polynomial.true
    ∙ sym (get_or-shift-above f.field g.met.F.Field.laws c.args.by c.args.polynomial.now c.args.i (c.args.i - c.args.by) (omega arith))

pub returns-else-j-polynomial : goal.returns-else-j-polynomial
returns-else-j-polynomial g c =
    let f = g.F.Field in
    c.zero-else-j-polynomial.ensures
    ∙ sym (get_or-shift-above f.field g.met.F.Field.laws c.args.by c.args.polynomial.now c.args.i (c.args.i - c.args.by) (omega arith)
    ∙ get_or-past f.field g.met.F.Field.laws c.args.polynomial.now (c.args.i - c.args.by) (omega arith))
