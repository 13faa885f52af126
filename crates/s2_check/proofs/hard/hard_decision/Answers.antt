use Rattle.std.proofs.Common.{◌≡◌, false, length, pos, int_lt, arith, sym, ◌∙◌}
use Rattle.std.proofs.lemmas.List.{same_lists, length-map, get_or-map, get_or_default}
use Rattle.s2_check.specs.Hard.{hard_decision}
use Rattle.s2_check.proofs.hard.hard_decision.Goals as goal

pub returns : goal.returns
returns c =
    let soft = c.args.soft.now in
    let word = c.loop-i.word in
    let same : length word ≡ length soft = omega arith in
    same_lists word (hard_decision soft) (same ∙ sym (length-map soft (λ v. int_lt v (pos 0)))) (λ k d h. get_or_default word k d false h ∙ c.loop-i.invariant k (omega arith) ∙ sym (get_or-map (λ v. int_lt v (pos 0)) soft k (pos 0) d (omega arith)))
