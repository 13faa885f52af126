use Rattle.std.proofs.Common.{arith}
use Rattle.s2_check.proofs.MoveLists.{none_are}
use Rattle.s2_split.proofs.maker.Maker.new.Goals as goal

pub invariant_of-result : goal.invariant_of-result
invariant_of-result c =
    let moves = c.in_ok-moves.ensures.items_if_clones_equal (λ y same. same) in
    record {
      few = λ i low. c.bits-bits.ensures.few_checks i;
      scaled = omega arith;
      rests_long = omega (arith, c.in_ok-rests.ensures.len, c.bits-bits.ensures.is);
      negatives_long = omega (arith, c.in_ok-negatives.ensures.len, c.check_count-checks.ensures.is);
      odd_long = omega (arith, c.in_ok-odd.ensures.len, c.check_count-checks.ensures.is);
      moves = none_are c.args.matrix.now c.check_count-checks.result c.in_ok-moves.moves.items c.check_count-checks.ensures.is moves;
    }
