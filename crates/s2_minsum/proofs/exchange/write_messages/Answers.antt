use Rattle.std.proofs.Common.{◌≡◌, ℕ, ◌+◌, ◌<◌, ◌≤◌, get_or, ap, ◌∙◌, arith}
use Rattle.s2_bits.specs.Lanes16.{minus16}
use Rattle.s2_minsum.specs.Rows.{cell, sent16}
use Rattle.s2_minsum.proofs.Exchanges.{sent_none, sent_more, sent_all}
use Rattle.s2_minsum.proofs.exchange.write_messages.Goals as goal

pub loop-e-init : goal.loop-e-init
loop-e-init g c = sent_none c.args.n c.args.count c.args.at g.row.W _ c.args.inputs.now c.args.messages.now

pub loop-e-preserved : goal.loop-e-preserved
loop-e-preserved g c =
    let n = c.args.n in
    let e = c.loop-e.e in
    let at = c.args.at in
    let count = c.args.count in
    let old = c.args.inputs.now in
    let had = c.args.messages.now in
    let inputs = c.loop-e.inputs in
    let messages = c.loop-e.messages in
    let before = c.loop-e.invariant in
    let lt : e < count = omega arith in
    let off : (k : ℕ) → e < e → at ≤ at + k → at + k < at + g.row.W → ⊥ = λ k less _ _. omega (arith, less) in
    let input : (k : ℕ) → k < g.row.W → get_or c.load.result k 0 ≡ cell old n e (at + k) = λ k low. c.load.ensures.each k low ∙ ap (λ p. get_or inputs p 0) (omega arith) ∙ before.inputs_left e (at + k) (omega arith) (off k) in
    let held : (k : ℕ) → k < g.row.W → get_or c.load-in-loop-e.result k 0 ≡ cell had n e (at + k) = λ k low. c.load-in-loop-e.ensures.each k low ∙ ap (λ p. get_or messages p 0) (omega arith) ∙ before.messages_left e (at + k) (omega arith) (off k) in
    let new : (k : ℕ) → k < g.row.W → get_or c.message-new.result k 0 ≡ sent16 (cell old n e (at + k)) (get_or c.args.min1 k 0) (get_or c.args.low k 0) (get_or c.args.high k 0) (get_or c.args.signs k 0) = λ k low. c.message-new.ensures.each k low ∙ ap (λ v. sent16 v (get_or c.args.min1 k 0) (get_or c.args.low k 0) (get_or c.args.high k 0) (get_or c.args.signs k 0)) (input k low) in
    sent_more n count at g.row.W e _ old had inputs messages c.minus-change.result c.message-new.result c.requires.lanes lt (omega arith) (omega arith) c.minus-change.ensures.long c.message-new.ensures.long new (λ k low. c.minus-change.ensures.each k low ∙ (λ i. minus16 (new k low i) (held k low i))) before

pub returns : goal.returns
returns g c = sent_all c.args.n c.args.count c.args.at g.row.W c.loop-e.e _ c.args.inputs.now c.args.messages.now c.loop-e.inputs c.loop-e.messages (omega arith) c.loop-e.invariant
