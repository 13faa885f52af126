use Rattle.std.proofs.Common.{◌*◌, ◌+◌, ◌/◌, ◌<◌, ◌≤◌, length, arith}
use Rattle.s2_stitch.specs.Records.{eight_at}
use Rattle.s2_stitch.proofs.SealLemmas.{sum_all, sum_more}
use Rattle.s2_stitch.proofs.seal.with_bytes.Goals as goal

pub eights-preserved : goal.eights-preserved
eights-preserved c =
    let bytes = c.args.bytes.now in
    let n = (length bytes + 7) / 8 in
    let low : c.eights.k < n = omega (arith, c.eights-test.true, c.div_ceil-k-end.ensures) in
    sum_more (λ i. eight_at bytes (8 * i)) n c.eights.k c.args.sum c.eights.sum c.eight_at.result c.step-sum.result low c.eights.invariant c.eight_at.ensures c.step-sum.ensures

pub returns : goal.returns
returns c =
    let bytes = c.args.bytes.now in
    let n = (length bytes + 7) / 8 in
    let all : n ≤ c.eights.k = omega (arith, c.eights-test.false, c.div_ceil-k-end.ensures) in
    sum_all (λ i. eight_at bytes (8 * i)) n c.eights.k c.args.sum c.eights.sum all c.eights.invariant
