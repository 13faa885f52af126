use Rattle.std.proofs.Common.{◌+◌, ◌*◌, ◌<◌, ap, sym, ◌∙◌, arith}
use Rattle.s2_bits.specs.Bits.{bit_at}
use Rattle.s2_mode.specs.Shape.{Shape}
use Rattle.s2_matrix.proofs.Adding.{group_more}
use Rattle.s2_matrix.proofs.parity.add_groups.Goals as goal

pub loop-g-preserved : goal.loop-g-preserved
loop-g-preserved c =
    let r = c.args.matrix.now in
    let e = c.shape-shape.ensures.is in
    let group = c.group-group.ensures.is ∙ ap (λ (s : Shape). s.group) e in
    let q = c.q-q.ensures.is ∙ ap (λ (s : Shape). s.q) e in
    let groups = c.groups-g-end.ensures.is ∙ ap (λ (s : Shape). s.groups) e in
    let low : c.loop-g.g < r.shape.groups = omega (arith, groups, c.loop-g-test.true) in
    let bits = c.part-bits.result.now in
    record {
      long = c.add_row.ensures.long ∙ c.loop-g.invariant.long;
      summed = group_more r c.args.info.now bits c.loop-g.planes c.add_row.new.planes c.addresses.result.now _ c.q-q.result c.loop-g.g (c.part-bits.ensures.long ∙ group) q c.addresses.ensures.are c.shape-shape.ensures.valid.group_some low (λ m h. c.part-bits.ensures.are m (omega (arith, c.part-bits.ensures.long)) ∙ ap (λ k. bit_at c.args.info.now (k * c.loop-g.g + m)) (sym c.part-bits.ensures.long)) c.add_row.ensures.added c.loop-g.invariant.summed;
    }
