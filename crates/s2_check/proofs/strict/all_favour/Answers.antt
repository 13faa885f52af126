use Rattle.std.proofs.Common.{◌≡◌, ℤ, pos, ◌≤ℤ◌, ◌↔◌, IsTrue, to_z, of_z, w16, SFits, rules, subst}
use Rattle.std.proofs.lemmas.Int.{to_z-of_z}
use Rattle.s2_check.specs.Cost.{value_at}
use Rattle.s2_check.specs.Moves.{in_favour}
use Rattle.s2_check.proofs.StrictMore.{strict_one}
use Rattle.s2_check.proofs.strict.all_favour.Goals as goal

pub loop-i-preserved : goal.loop-i-preserved
loop-i-preserved c =
    let i = c.loop-i.i in
    let soft = c.args.soft.now in
    let word = c.args.word.now in
    let v : ℤ = value_at soft i in
    let fits : SFits w16 v = search rules in
    let same : to_z w16 (of_z w16 v) ≡ v = to_z-of_z w16 v fits in
    let P : ℤ → Type 0 = λ x. IsTrue c.favours-strict.result ↔ (pos 1 ≤ℤ in_favour word i x) in
    strict_one i c.loop-i.strict c.favours-strict.result (λ k. pos 1 ≤ℤ in_favour word k (value_at soft k)) c.loop-i.invariant (subst P same c.favours-strict.ensures)
