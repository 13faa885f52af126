use Rattle.std.proofs.Common.{arith, suc, ◌≡◌, ◌-◌, ◌∙◌, ℕ, ap, ap₂, length, set}
use Rattle.std.proofs.lemmas.List.{get_or_read}
use Rattle.s2_field.specs.Polynomials.{pow, eval}
use Rattle.s2_bch.proofs.SplittingFacts.{moved_on, times_x_value}
use Rattle.s2_bch.proofs.splitting.times_x.Goals as goal

pub returns : goal.returns
returns g c y root =
    let f = g.F.Field in
    let old = c.args.remainder.now in
    let moved = c.copy_within.new.self in
    let last : ℕ = length old - 1 in
    let size : length old ≡ suc last = omega (arith, c.requires.some) in
    let value = eval f.field c.args.low.now y in
    let top = get_or_read old last c.index-remainder-last.result (omega arith) c.index-remainder-last.is f.field.zero in
    c.add_multiple.ensures y
    ∙ ap₂ f.field.sum
    (ap (λ u. eval f.field (set moved 0 u) y) c.zero.ensures
    ∙ ap (λ u. eval f.field u y) (moved_on old moved last f.field.zero size c.copy_within.ensures.after))
    (ap (f.field.product value) top)
    ∙ times_x_value f.field g.met.F.Field.laws old last value y size
    (root ∙ ap (pow f.field y) (c.requires.same_size ∙ size))
