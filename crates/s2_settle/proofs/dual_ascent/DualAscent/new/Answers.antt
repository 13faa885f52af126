use Rattle.std.proofs.Common.{subst, ap, ◌∙◌, arith}
use Rattle.s2_minsum.specs.Decoding.{AreFit}
use Rattle.s2_check.proofs.MoveLists.{none_are}
use Rattle.s2_settle.proofs.dual_ascent.DualAscent.new.Goals as goal

pub invariant_of-result : goal.invariant_of-result
invariant_of-result c =
    let rows = c.args.matrix.now in
    let layers = c.in_ok-layers.ensures.rows in
    let moves = c.in_ok-moves.ensures.items_if_clones_equal (λ y same. same) in
    record {
      layers = layers;
      fit = subst AreFit layers c.in_ok-layers.ensures.fit;
      long = c.in_ok-held.ensures;
      room = λ r lt. omega (arith, c.scratch_len.ensures.room r lt, c.in_ok-scratch.ensures.len);
      moves = none_are rows c.check_count-checks.result c.in_ok-moves.moves.items c.check_count-checks.ensures.is moves;
    }
