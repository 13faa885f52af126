use Rattle.std.proofs.Common.{rules, refl, ◌≤◌, get_or, pos, unsigned_abs, SFits, w32, w64, ◌∙◌, arith}
use Rattle.std.proofs.lemmas.Int.{ints, to_z-of_z}
use Rattle.s2_check.proofs.Least.{one_more, says_least}
use Rattle.s2_check.proofs.local.wide_minimum.Goals as goal

pub loop-at-preserved : goal.loop-at-preserved
loop-at-preserved c =
    let xs = c.args.shares.now in
    let i = c.loop-at.at in
    let x = get_or xs i (pos 0) in
    let fits : SFits w32 x = search rules in
    let same = to_z-of_z w32 x fits in
    let few : unsigned_abs x ≤ 2147483648 = omega (arith, ints) in
    let was = c.loop-at.tally in
    let now = c.with-tally.result in
    let next = c.with-tally.ensures in
    one_more was.negative_sum now.negative_sum x was.negative_count now.negative_count was.least_magnitude now.least_magnitude i xs (omega arith) refl few (rw same at next.sum) (rw same at next.count) (rw same at next.magnitude) c.loop-at.invariant

pub returns-clause-value : goal.returns-clause-value
returns-clause-value c =
    let fits : SFits w64 c.least_even_sum.result = search rules in
    to_z-of_z w64 c.least_even_sum.result fits ∙ (says_least c.loop-at.tally.negative_sum c.least_even_sum.result c.loop-at.tally.negative_count c.loop-at.tally.least_magnitude c.loop-at.at c.args.shares.now (omega arith) c.loop-at.invariant c.least_even_sum.ensures).value

pub returns-clause-high : goal.returns-clause-high
returns-clause-high c =
    let fits : SFits w64 c.least_even_sum.result = search rules in
    let same = to_z-of_z w64 c.least_even_sum.result fits in
    let s = says_least c.loop-at.tally.negative_sum c.least_even_sum.result c.loop-at.tally.negative_count c.loop-at.tally.least_magnitude c.loop-at.at c.args.shares.now (omega arith) c.loop-at.invariant c.least_even_sum.ensures in
    omega (arith, ints, same, s.high)
