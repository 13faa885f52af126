use Rattle.std.proofs.Common.{arith, sym, ap, ap₂, ◌∙◌, ◌≡◌, ◌+◌, ◌-◌, ◌<◌, ℕ, [], length, get_or, drop, set, length-set, drop_of_length-le}
use Rattle.std.proofs.lemmas.List.{get_or_read}
use Rattle.s2_field.specs.Polynomials.{eval}
use Rattle.s2_bch.proofs.LocatorTheory.{mul-zero}
use Rattle.s2_bch.proofs.SplittingFacts.{eval_added, square_step}
use Rattle.s2_bch.proofs.splitting.square.Goals as goal

pub loop-i-init : goal.loop-i-init
loop-i-init g c =
    let f = g.F.Field in
    let old = c.args.remainder.now in
    let none : drop (length old) old ≡ [] = drop_of_length-le old (omega arith) in
    record {
      size = omega (arith, c.clear.auto.polynomial, c.requires.room);
      within = omega arith;
      value = λ y root. c.clear.ensures y
          ∙ sym (ap (λ u. f.field.product (eval f.field u y) (eval f.field u y)) none ∙ mul-zero f.field g.met.F.Field.laws f.field.zero);
    }

pub loop-i-preserved : goal.loop-i-preserved
loop-i-preserved g c =
    let f = g.F.Field in
    let laws = g.met.F.Field.laws in
    let old = c.args.remainder.now in
    let i : ℕ = c.loop-i.i - 1 in
    let v = c.loop-i.invariant in
    let room = c.times_x-in-loop-i.new.remainder in
    let size : length room ≡ length old = omega (arith, c.times_x-in-loop-i.auto.remainder, c.times_x.auto.remainder, v.size) in
    let within : i < length old = omega (arith, v.within) in
    let up : c.loop-i.i ≡ i + 1 = omega arith in
    let first = get_or_read room 0 c.index-room-0.result (omega (arith, size)) c.index-room-0.is f.field.zero in
    let one = get_or_read old i c.index-remainder-i.result within c.index-remainder-i.is f.field.zero in
    let coefficient = get_or old i f.field.zero in
    let squared = f.field.product coefficient coefficient in
    let other = get_or_read old i c.index-remainder-i-in-loop-i.result within c.index-remainder-i-in-loop-i.is f.field.zero in
    record {
      size = length-set room 0 c.add.result ∙ size;
      within = omega (arith, v.within);
      value = λ y root.
          ap (λ u. eval f.field (set room 0 u) y) (c.add.ensures ∙ ap₂ f.field.sum first (c.mul.ensures ∙ ap₂ f.field.product one other))
          ∙ eval_added f.field laws room 0 squared y (omega (arith, size))
          ∙ ap (λ u. f.field.sum u (f.field.product squared f.field.one)) (c.times_x-in-loop-i.ensures y root ∙ ap (f.field.product y) (c.times_x.ensures y root))
          ∙ square_step f.field laws old i (eval f.field c.loop-i.room y) y within
          (v.value y root ∙ ap (λ n. f.field.product (eval f.field (drop n old) y) (eval f.field (drop n old) y)) up);
    }

pub returns : goal.returns
returns g c y root =
    let f = g.F.Field in
    let old = c.args.remainder.now in
    let e : c.loop-i.i ≡ 0 = omega arith in
    ap (λ u. eval f.field u y) c.copy_from_slice.ensures.after
    ∙ c.loop-i.invariant.value y root
    ∙ ap (λ n. f.field.product (eval f.field (drop n old) y) (eval f.field (drop n old) y)) e
