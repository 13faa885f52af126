use Rattle.std.proofs.Common.{arith, sym, ap, ap₂, ◌∙◌, ◌<◌, ℕ, length, set, take_all}
use Rattle.std.proofs.lemmas.List.{get_or_read}
use Rattle.s2_field.specs.Polynomials.{eval}
use Rattle.s2_bch.proofs.LocatorTheory.{zero-mul, mul-zero}
use Rattle.s2_bch.proofs.SplittingFacts.{multiple_step}
use Rattle.s2_bch.proofs.splitting.add_multiple.Goals as goal

pub returns-then-is_zero : goal.returns-then-is_zero
returns-then-is_zero g c y =
    let f = g.F.Field in
    let laws = g.met.F.Field.laws in
    let start = eval f.field c.args.remainder.now y in
    let value = eval f.field c.args.polynomial.now y in
    sym (ap (f.field.sum start) (ap (f.field.product value) (c.is_zero.ensures.0 c.if-is_zero.true) ∙ mul-zero f.field laws value)
    ∙ laws.add_zero start)

pub loop-i-init : goal.loop-i-init
loop-i-init g c y =
    let f = g.F.Field in
    let laws = g.met.F.Field.laws in
    let start = eval f.field c.args.remainder.now y in
    sym (ap (f.field.sum start) (zero-mul f.field laws c.args.factor) ∙ laws.add_zero start)

pub loop-i-preserved : goal.loop-i-preserved
loop-i-preserved g c y =
    let f = g.F.Field in
    let i : ℕ = c.loop-i.i in
    let now = c.loop-i.remainder in
    let other = c.args.polynomial.now in
    let here : i < length now = omega arith in
    let there : i < length other = omega arith in
    let read = get_or_read now i c.index-remainder-i.result here c.index-remainder-i.is f.field.zero in
    let coefficient = get_or_read other i c.index-polynomial-i.result there c.index-polynomial-i.is f.field.zero in
    ap (λ u. eval f.field (set now i u) y)
    (c.add.ensures ∙ ap₂ f.field.sum read (c.mul.ensures ∙ ap (λ q. f.field.product q c.args.factor) coefficient))
    ∙ multiple_step f.field g.met.F.Field.laws now other i (eval f.field c.args.remainder.now y) c.args.factor y here there
    (c.loop-i.invariant y)

pub returns : goal.returns
returns g c y =
    let f = g.F.Field in
    c.loop-i.invariant y
    ∙ ap (λ u. f.field.sum (eval f.field c.args.remainder.now y) (f.field.product (eval f.field u y) c.args.factor))
    (take_all c.loop-i.i c.args.polynomial.now (omega arith))
