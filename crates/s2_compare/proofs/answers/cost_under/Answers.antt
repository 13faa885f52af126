use Rattle.std.proofs.Common.{ℕ, ◌+◌, Bool, cond, pos, SFits, w16, arith, rules, sym, ◌∙◌}
use Rattle.std.proofs.lemmas.Int.{ints, to_z-of_z}
use Rattle.std.proofs.lemmas.Bool.{cond-true, cond-false}
use Rattle.s2_matrix.specs.Total.{upto}
use Rattle.s2_bits.specs.Bits.{bit_at}
use Rattle.s2_check.specs.Cost.{value_at}
use Rattle.s2_matrix.proofs.Totals.{total-filter, total-upto_more}
use Rattle.s2_compare.proofs.answers.cost_under.Goals as goal
use Rattle.s2_compare.proofs.answers.cost_under.Goals.{then-get, else-get}

pub bits-preserved : goal.bits-preserved
bits-preserved c =
    let soft = c.args.view.now.soft in
    let one : ℕ → Bool = bit_at c.args.word.now in
    let i = c.bits.i in
    let x = c.soft.result in
    let is = c.soft.ensures in
    let before = total-filter (value_at soft) one (upto i) in
    let after = total-filter (value_at soft) one (upto (i + 1)) in
    let more = total-upto_more (λ k. cond (one k) (value_at soft k) (pos 0)) i in
    let fits : SFits w16 x = search rules in
    let same = c.from-value.ensures ∙ to_z-of_z w16 x fits in
    elim c.if-get.branch [
      | then-get w ↦ (
          let taken = cond-true (one i) (value_at soft i) (pos 0) (sym c.get.ensures ∙ w.if-get.true) in
          record { sum = omega (arith, ints, w.cost-is); low = omega (arith, ints, w.cost-is); high = omega (arith, ints, w.cost-is) }
          )
      | else-get w ↦ (
          let taken = cond-false (one i) (value_at soft i) (pos 0) (sym c.get.ensures ∙ w.if-get.false) in
          record { sum = omega (arith, ints, w.cost-is); low = omega (arith, ints, w.cost-is); high = omega (arith, ints, w.cost-is) }
          )
    ]
