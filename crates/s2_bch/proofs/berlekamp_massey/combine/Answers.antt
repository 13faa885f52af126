use Rattle.std.proofs.Common.{arith, ◌≢◌, ◌<◌, ◌≤◌, ℕ, length, ◌∙◌, sym, ap, ap₂, get_or-set_other, get_or-set_same, below_more}
use Rattle.std.proofs.lemmas.List.{ext_get_or}
use Rattle.s2_bch.proofs.LocatorTheory.{length-shift, length-scale}
use Rattle.s2_bch.specs.Sequences.{scale, shift}
use Rattle.s2_bch.proofs.Locators.{get_or-plus, get_or-scale, length-plus}
use Rattle.s2_bch.proofs.berlekamp_massey.combine.Goals as goal

pub loop-i-preserved : goal.loop-i-preserved
loop-i-preserved g c =
    let f = g.F.Field in
    let i : ℕ = c.loop-i.i in
    let lt : i < length c.loop-i.out = omega arith in
    below_more _ _
    (λ k h. let ne : k ≢ i = omega arith in rw get_or-set_other (c.loop-i.invariant k h))
    (rw get_or-set_same
    (c.add.ensures
    ∙ ap₂ f.field.sum c.shifted.ensures
    (c.mul.ensures ∙ ap (f.field.product c.args.factor) c.shifted-term.ensures
    ∙ sym (get_or-scale f.field g.met.F.Field.laws c.args.factor
    (shift f.field c.args.auxiliary_shift c.args.auxiliary.now) i))
    ∙ sym (get_or-plus f.field g.met.F.Field.laws
    (shift f.field c.args.locator_shift c.args.locator.now)
    (scale f.field c.args.factor (shift f.field c.args.auxiliary_shift c.args.auxiliary.now)) i)))

pub returns : goal.returns
returns g c =
    let f = g.F.Field in
    let e1 = length-shift f.field g.met.F.Field.laws c.args.locator_shift c.args.locator.now in
    let e2 = length-shift f.field g.met.F.Field.laws c.args.auxiliary_shift c.args.auxiliary.now in
    let e3 = length-scale f.field g.met.F.Field.laws c.args.factor (shift f.field c.args.auxiliary_shift c.args.auxiliary.now) in
    let fits : length (scale f.field c.args.factor (shift f.field c.args.auxiliary_shift c.args.auxiliary.now))
    ≤ length (shift f.field c.args.locator_shift c.args.locator.now) = omega (arith, e1, e2, e3) in
    let e4 = length-plus f.field g.met.F.Field.laws _ _ fits in
    ext_get_or f.field.zero _ _ (omega (arith, e1, e2, e3, e4)) (λ k hk. c.loop-i.invariant k (omega arith))
