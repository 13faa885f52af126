use Rattle.std.proofs.Common.{◌≡◌, ◌*◌, ◌+◌, ◌/◌, ◌<◌, ◌≤◌, length, arith, ap, ◌∙◌}
use Rattle.s2_stitch.specs.Records.{four_at}
use Rattle.s2_stitch.proofs.SealLemmas.{sum_all, sum_more}
use Rattle.s2_stitch.proofs.seal.soft_sums.Goals as goal

pub eights-preserved : goal.eights-preserved
eights-preserved c =
    let soft = c.args.soft.now in
    let k = c.eights.k in
    let n = (length soft + 7) / 8 in
    let low : k < n = omega (arith, c.eights-test.true, c.div_ceil-k-end.ensures) in
    let none : 8 * k ≡ 8 * k + 4 * 0 = omega arith in
    record {
      first = sum_more (λ i. four_at soft (8 * i + 4 * 0)) n k 0 c.eights.first c.four_at.result c.step-first.result low c.eights.invariant.first (c.four_at.ensures ∙ ap (four_at soft) none) c.step-first.ensures;
      second = sum_more (λ i. four_at soft (8 * i + 4 * 1)) n k 0 c.eights.second c.four_at-in-eights.result c.step-second.result low c.eights.invariant.second c.four_at-in-eights.ensures c.step-second.ensures;
    }

pub returns-clause-first : goal.returns-clause-first
returns-clause-first c =
    let soft = c.args.soft.now in
    let n = (length soft + 7) / 8 in
    let all : n ≤ c.eights.k = omega (arith, c.eights-test.false, c.div_ceil-k-end.ensures) in
    sum_all (λ i. four_at soft (8 * i + 4 * 0)) n c.eights.k 0 c.eights.first all c.eights.invariant.first

pub returns-clause-second : goal.returns-clause-second
returns-clause-second c =
    let soft = c.args.soft.now in
    let n = (length soft + 7) / 8 in
    let all : n ≤ c.eights.k = omega (arith, c.eights-test.false, c.div_ceil-k-end.ensures) in
    sum_all (λ i. four_at soft (8 * i + 4 * 1)) n c.eights.k 0 c.eights.second all c.eights.invariant.second
