use Rattle.std.proofs.Common.{◌<◌, ap, ◌∙◌, arith}
use Rattle.s2_mode.specs.Shape.{Shape, information_bits, check_count}
use Rattle.s2_matrix.proofs.Edging.{info_edges}
use Rattle.s2_matrix.proofs.build.join_info.Goals as goal

pub loop-bit-preserved : goal.loop-bit-preserved
loop-bit-preserved c =
    let e = c.shape-shape.ensures.is in
    let group = c.group-group.ensures.is ∙ ap (λ (s : Shape). s.group) e in
    let q = c.q-q.ensures.is ∙ ap (λ (s : Shape). s.q) e in
    let count = c.checks-count.ensures.is ∙ ap check_count e in
    let all = c.k-bit-end.ensures.is ∙ ap information_bits e in
    let low : c.loop-bit.bit < information_bits c.args.rows.now.shape = omega (arith, all) in
    info_edges c.args.rows.now c.loop-bit.bit c.group-group.result c.q-q.result c.checks-count.result c.row-row.result.now c.loop-bit.checks.items c.loop-bit.bits.items c.join_row.new.checks.items c.join_row.new.bits.items group q count low c.row-row.ensures.are c.row-row.ensures.short c.loop-bit.invariant c.in_ok-join_row.ensures
