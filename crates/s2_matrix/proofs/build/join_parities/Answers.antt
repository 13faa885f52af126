use Rattle.std.proofs.Common.{ap, ◌∙◌}
use Rattle.s2_mode.specs.Shape.{information_bits, check_count}
use Rattle.s2_matrix.proofs.Edging.{parity_edges}
use Rattle.s2_matrix.proofs.build.join_parities.Goals as goal

pub loop-check-preserved : goal.loop-check-preserved
loop-check-preserved c =
    let e = c.shape-shape.ensures.is in
    parity_edges c.args.rows.now c.loop-check.check c.k-first.result c.checks-count.result c.loop-check.checks.items c.loop-check.bits.items c.join_parity.new.checks.items c.join_parity.new.bits.items (c.k-first.ensures.is ∙ ap information_bits e) (c.checks-count.ensures.is ∙ ap check_count e) c.loop-check.invariant c.in_ok-join_parity.ensures
