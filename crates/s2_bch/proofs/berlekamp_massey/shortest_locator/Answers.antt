use Rattle.std.proofs.Common.{true, arith, refl, ◌*◌, ◌≡◌, ◌≢◌, ◌+◌, ◌-◌, ◌<◌, ◌≤◌, length, ◌∙◌, sym, ap, ap₂, take, [], ◌∷◌}
use Rattle.std.proofs.lemmas.Bool.{true≢false}
use Rattle.s2_bch.specs.Sequences.{sequence_of}
use Rattle.s2_bch.proofs.Shortest.{start, mend_step, grow_step, moved, front_of_set}
use Rattle.s2_bch.proofs.berlekamp_massey.shortest_locator.Goals as goal
use Rattle.s2_bch.proofs.berlekamp_massey.shortest_locator.Goals.{then-degree-n, else-degree-n}

pub loop-n-init : goal.loop-n-init
loop-n-init g c =
    let f = g.F.Field in
    let room : 0 < length c.args.locator.now = omega arith in
    record {
      shortest = start f.field g.met.F.Field.laws _ [] c.one-delta.result (sequence_of f.field.zero c.args.sequence.now)
          (front_of_set c.args.locator.now c.one.result room ∙ ap (λ x. x ∷ []) c.one.ensures) refl c.one-delta.ensures;
      short = omega arith;
      room = omega arith;
    }

pub loop-n-preserved : goal.loop-n-preserved
loop-n-preserved g c =
    let f = g.F.Field in
    let fails : c.discrepancy-wrong.result ≢ f.field.zero =
    λ z. (let t : c.is_zero.result ≡ true = c.is_zero.ensures.1 z in true≢false (sym t ∙ c.if-is_zero.false)) in
    let quotient : c.mul-factor.result ≡ f.field.product c.discrepancy-wrong.result (f.field.inverse c.loop-n.delta) =
    c.mul-factor.ensures ∙ ap (f.field.product c.discrepancy-wrong.result) c.inv.ensures in
    elim c.if-degree-n.branch [
      | then-degree-n w ↦ (
          let small : 2 * c.loop-n.degree ≤ c.loop-n.n = w.if-degree-n.true in
          let size : c.if-degree-n.degree + 1 ≡ c.loop-n.n + 1 - 2 * c.loop-n.degree + c.loop-n.degree + 1 = omega (arith, w.degree-is) in
          record {
            shortest = grow_step f.field g.met.F.Field.laws c.loop-n.n c.loop-n.degree
                (c.loop-n.n + 1 - 2 * c.loop-n.degree) _ _ _ _ _ c.loop-n.delta _ c.mul-factor.result _ c.loop-n.invariant.shortest
                (omega arith) (w.delta-is ∙ c.discrepancy-wrong.ensures) (λ z. fails (sym w.delta-is ∙ z))
                (quotient ∙ ap (λ x. f.field.product x (f.field.inverse c.loop-n.delta)) (sym w.delta-is))
                (omega arith) (omega (arith, w.degree-is)) (ap₂ take size w.locator-is ∙ w.grow.ensures.locator)
                (ap₂ take w.auxiliary_size-is w.auxiliary-is ∙ w.grow.ensures.auxiliary);
            short = omega (arith, w.degree-is);
            room = omega (arith, w.degree-is, w.auxiliary_size-is, c.loop-n.invariant.short);
          })
      | else-degree-n w ↦ (
          let big : c.loop-n.n < 2 * c.loop-n.degree = w.if-degree-n.false in
          let size : c.if-degree-n.degree + 1 ≡ c.loop-n.degree + 1 = omega (arith, w.degree-is) in
          record {
            shortest = moved f.field g.met.F.Field.laws
                (c.loop-n.n + 1) (c.loop-n.n + 1) c.loop-n.degree c.if-degree-n.degree _ _ _ _ c.loop-n.delta c.if-degree-n.delta _
                refl (sym w.degree-is) (sym (ap₂ take size w.locator-is)) (sym (ap₂ take w.auxiliary_size-is w.auxiliary-is)) (sym w.delta-is)
                (mend_step f.field g.met.F.Field.laws c.loop-n.n c.loop-n.degree (2 * c.loop-n.degree - c.loop-n.n - 1)
                _ _ _ c.loop-n.delta c.discrepancy-wrong.result c.mul-factor.result _ c.loop-n.invariant.shortest
                (omega arith) c.discrepancy-wrong.ensures quotient (omega arith) w.renew.ensures);
            short = omega (arith, w.degree-is, c.loop-n.invariant.short);
            room = omega (arith, w.degree-is, w.auxiliary_size-is, c.loop-n.invariant.room);
          })
    ]

pub returns : goal.returns
returns g c =
    let e : c.loop-n.n ≡ length c.args.sequence.now = omega arith in
    (take c.loop-n.auxiliary_size c.loop-n.auxiliary, c.loop-n.delta, rw (← e) c.loop-n.invariant.shortest)
