use Rattle.std.proofs.Common.{◌≡◌, ℕ, ◌+◌, ◌*◌, ◌<◌, ◌≤◌, get_or, ◌∙◌, arith}
use Rattle.s2_bits.proofs.LaneSteps.{HasLanes-same}
use Rattle.s2_minsum.specs.Rows.{cell}
use Rattle.s2_settle.specs.Rests.{freed16, moved16, change}
use Rattle.s2_settle.specs.Nodes.{least_at, amount_of, free_of}
use Rattle.s2_settle.specs.Exchange.{AreWritten}
use Rattle.s2_settle.proofs.Writings.{exchanged_by}
use Rattle.s2_settle.proofs.exchange.exchange_some.Goals as goal

-- a vector of these lanes is no larger than memory
small : (w : ℕ) → w ≤ 32 → w * 2 < 9223372036854775808
small w few = omega arith

pub returns : goal.returns
returns g c =
    let n = c.args.n in
    let count = c.args.count in
    let at = c.args.at in
    let inputs = c.args.inputs.now in
    let targets = c.args.targets.now in
    let amounts = c.args.amounts.now in
    let t = c.three_least_of in
    let free : (k : ℕ) → k < g.row.W → get_or c.freed-free.result k 0 ≡ free_of c.args.step.margin (λ e. cell inputs n e (at + k)) count = λ k lt. c.freed-free.ensures.each k lt ∙ (λ i. freed16 (c.all.ensures.each k lt i) (t.ensures.min1.each k lt i) (t.ensures.min2.each k lt i) (t.ensures.min3.each k lt i)) in
    let amount : (k : ℕ) → k < g.row.W → get_or c.moved-amount.result k 0 ≡ amount_of c.args.step (get_or targets (at + k) 0) (get_or amounts (at + k) 0) (λ e. cell inputs n e (at + k)) count = λ k lt. c.moved-amount.ensures.each k lt ∙ (λ i. moved16 c.args.step (c.load-old_target.ensures.each k lt i) (c.load-old_amount.ensures.each k lt i) (t.ensures.places.each k lt i) (free k lt i)) in
    exchanged_by c.args.step n count at g.row.W inputs targets amounts c.write_changes.new.inputs t.new.places c.moved-amount.result c.requires.lanes c.requires.targets c.requires.amounts
    t.ensures.places
    (record { long = c.moved-amount.ensures.long; each = amount })
    (record {
      written = λ e k lt low. c.write_changes.ensures.written e k lt low ∙ (λ i. change (c.load-old_target.ensures.each k low i) (c.load-old_amount.ensures.each k low i) (get_or t.new.places k 0) (get_or c.moved-amount.result k 0) e);
      left = c.write_changes.ensures.left;
    })
