use Rattle.std.proofs.Common.{arith, sym, ap, ap₂, ◌∙◌, ◌≡◌, ◌^◌, ℕ, length, set, length-set, not, true≢false}
use Rattle.std.proofs.lemmas.List.{get_or_read}
use Rattle.s2_field.specs.Polynomials.{pow, eval}
use Rattle.s2_bch.proofs.LocatorTheory.{zero-add as nil-add}
use Rattle.s2_bch.proofs.SplittingFacts.{eval_added, next_power, split_remainder, without_degree}
use Rattle.s2_bch.proofs.splitting.power_is_x.Goals as goal

pub loop-init : goal.loop-init
loop-init g c =
    let f = g.F.Field in
    let laws = g.met.F.Field.laws in
    let zeros = c.clear.new.polynomial in
    let size : length zeros ≡ length c.args.low.now = omega (arith, c.clear.auto.polynomial, c.requires.remainder) in
    let read = get_or_read zeros 1 c.index-remainder-1.result (omega (arith, size)) c.index-remainder-1.is f.field.zero in
    record {
      size = length-set zeros 1 c.add.result ∙ size;
      room = c.requires.room;
      value = λ y root.
          ap (λ u. eval f.field (set zeros 1 u) y) (c.add.ensures ∙ ap₂ f.field.sum read c.one.ensures)
          ∙ eval_added f.field laws zeros 1 f.field.one y (omega (arith, size))
          ∙ ap₂ f.field.sum (c.clear.ensures y) (laws.mul_comm f.field.one (pow f.field y 1) ∙ laws.mul_one (pow f.field y 1))
          ∙ nil-add f.field laws (pow f.field y 1);
    }

pub loop-preserved : goal.loop-preserved
loop-preserved g c =
    let f = g.F.Field in
    let v = c.loop.invariant in
    record {
      size = omega (arith, c.square.auto.remainder, v.size);
      room = omega (arith, c.square.auto.room, v.room);
      value = λ y root.
          c.square.ensures y root
          ∙ next_power f.field g.met.F.Field.laws y (eval f.field c.loop.remainder y) c.loop.counter (v.value y root);
    }

pub returns : goal.returns
returns g c refused xs roots =
    let f = g.F.Field in
    let laws = g.met.F.Field.laws in
    let v = c.loop.invariant in
    let now = c.loop.remainder in
    let size = v.size in
    let end : c.loop.counter ≡ c.args.m = omega arith in
    let read = get_or_read now 1 c.index-remainder-1-2.result (omega (arith, size)) c.index-remainder-1-2.is f.field.zero in
    let last = set now 1 c.add-2.result in
    let zeros = split_remainder f.field laws (2 ^ c.args.m) c.args.low.now last xs roots (length-set now 1 c.add-2.result ∙ size)
    (λ y root. ap (λ u. eval f.field (set now 1 u) y) (c.add-2.ensures ∙ ap₂ f.field.sum read c.one-2.ensures)
    ∙ eval_added f.field laws now 1 f.field.one y (omega (arith, size))
    ∙ ap (λ u. f.field.sum u (f.field.product f.field.one (pow f.field y 1))) (v.value y root ∙ ap (λ k. pow f.field y (2 ^ k)) end)) in
    true≢false (sym (c.is_none.ensures ∙ ap not refused) ∙ without_degree f.field.zero last c.degree.result c.degree.ensures.some zeros)
