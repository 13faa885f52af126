use Rattle.std.proofs.Common.{◌≡◌, ℕ, suc, ◌+◌, ◌<◌, min, max, length, get_or, ap, ◌∙◌, arith}
use Rattle.s2_bits.proofs.RowParts.{row_room}
use Rattle.s2_bits.proofs.LaneSteps.{HasLanes-same}
use Rattle.s2_minsum.specs.Rows.{cell}
use Rattle.s2_settle.specs.Rests.{seen_at}
use Rattle.s2_settle.specs.Nodes.{min1_of, min2_of, min3_of, least_at}
use Rattle.s2_settle.proofs.exchange.three_least_of.Goals as goal

pub load-requires : goal.load-requires
load-requires g c =
    let inputs = c.args.inputs.now in
    omega (arith, row_room c.args.n c.loop-e.e c.args.count (length inputs) (omega arith) c.requires.long)

pub loop-e-preserved : goal.loop-e-preserved
loop-e-preserved g c =
    let n = c.args.n in
    let e = c.loop-e.e in
    let at = c.args.at in
    let inputs = c.args.inputs.now in
    let before = c.loop-e.invariant in
    let input : (k : ℕ) → k < g.row.W → get_or c.load.result k 0 ≡ cell inputs n e (at + k) = λ k lt. c.load.ensures.each k lt ∙ ap (λ p. get_or inputs p 0) (omega arith) in
    let next : suc e ≡ e + 1 = omega arith in
    let new = c.update_least.new in
    let ensures = c.update_least.ensures in
    record {
      min1 = HasLanes-same g.row.W _ _ new.min1 ensures.min1 (λ k lt. (λ i. min (before.min1.each k lt i) (input k lt i)) ∙ ap (min1_of (λ d. cell inputs n d (at + k))) next);
      min2 = HasLanes-same g.row.W _ _ new.min2 ensures.min2 (λ k lt. (λ i. min (before.min2.each k lt i) (max (before.min1.each k lt i) (input k lt i))) ∙ ap (min2_of (λ d. cell inputs n d (at + k))) next);
      min3 = HasLanes-same g.row.W _ _ new.min3 ensures.min3 (λ k lt. (λ i. min (before.min3.each k lt i) (max (before.min2.each k lt i) (input k lt i))) ∙ ap (min3_of (λ d. cell inputs n d (at + k))) next);
      places = HasLanes-same g.row.W _ _ new.places ensures.places (λ k lt. (λ i. seen_at (before.places.each k lt i) (before.min1.each k lt i) (input k lt i) (c.all-es.ensures.each k lt i)) ∙ ap (least_at (λ d. cell inputs n d (at + k))) next);
    }
