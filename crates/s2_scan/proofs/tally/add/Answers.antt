use Rattle.std.proofs.Common.{◌<◌, ◌≤◌, length, ap, sym, ◌∙◌, arith}
use Rattle.std.proofs.lemmas.List.{get_or_read}
use Rattle.s2_scan.specs.Candidates.{counted_on, no_tally, tallied}
use Rattle.s2_scan.proofs.Tallies.{tally_here, tally_past}
use Rattle.s2_scan.proofs.tally.add.Goals as goal

pub returns-then-index-distance : goal.returns-then-index-distance
returns-then-index-distance c =
    let xs = c.loop-k.table.items in
    let k = c.loop-k.k in
    let within : k < length xs = omega arith in
    let read = get_or_read xs k c.index.result.now within c.index.ensures no_tally in
    let again = get_or_read xs k c.index-then-index-distance.result.now within c.index-then-index-distance.ensures no_tally in
    let written = get_or_read xs k c.index_mut.result.now within c.index_mut.ensures.value no_tally in
    tally_here c.args.distance xs k c.index_mut.result.now c.saturating_add.result within (sym written)
    (ap (λ t. t.distance) (written ∙ sym read) ∙ c.if-index-distance.true) (c.saturating_add.ensures ∙ ap (λ t. counted_on t.times) (again ∙ sym written)) c.loop-k.invariant.found
    ∙ ap (tallied c.args.distance) c.loop-k.invariant.same

pub returns : goal.returns
returns c =
    let past : length c.loop-k.table.items ≤ c.loop-k.k = omega arith in
    c.in_ok-push.ensures.items ∙ sym (tally_past c.args.distance c.loop-k.table.items c.loop-k.k past c.loop-k.invariant.found) ∙ ap (tallied c.args.distance) c.loop-k.invariant.same
