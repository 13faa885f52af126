use Rattle.std.proofs.Common.{◌≡◌, ℤ, get_or, pos, ◌≤ℤ◌, ◌↔◌, IsTrue, to_z, of_z, w64, SFits, rules, subst}
use Rattle.std.proofs.lemmas.Int.{to_z-of_z}
use Rattle.s2_check.specs.Moves.{in_favour}
use Rattle.s2_check.proofs.StrictMore.{strict_one}
use Rattle.s2_check.proofs.listed_rests.all_favoured.Goals as goal

pub loop-i-preserved : goal.loop-i-preserved
loop-i-preserved c =
    let i = c.loop-i.i in
    let rests = c.args.rests.now in
    let word = c.args.word.now in
    let v : ℤ = get_or rests i (pos 0) in
    let fits : SFits w64 v = search rules in
    let same : to_z w64 (of_z w64 v) ≡ v = to_z-of_z w64 v fits in
    let P : ℤ → Type 0 = λ x. IsTrue c.is_favoured-strict.result ↔ (pos 1 ≤ℤ in_favour word i x) in
    strict_one i c.loop-i.strict c.is_favoured-strict.result (λ k. pos 1 ≤ℤ in_favour word k (get_or rests k (pos 0))) c.loop-i.invariant (subst P same c.is_favoured-strict.ensures)
