-- A distance counted in a table.
use Rattle.std.proofs.Common.{◌≡◌, ℕ, suc, ◌+◌, ◌<◌, ◌≤◌, Bool, true, List, [], ◌∷◌, ◌++◌, get_or, set, take, drop, length, ap, sym, ◌∙◌, arith}
use Rattle.std.specs.Prelude.{◌==◌, if◌then◌else◌}
use Rattle.std.proofs.lemmas.Bool.{eq-eqb}
use Rattle.std.proofs.lemmas.List.{drop_all, drop_more, set_split, take_all}
use Rattle.s2_scan.specs.Candidates.{counted_on, no_tally, tallied}
use Rattle.s2_scan.specs.declared.tally.Tally.{Tally}

-- the distance is there
pub tally_here : (d : ℕ) (xs : List Tally) (k : ℕ) (t : Tally) (times : ℕ) → k < length xs → get_or xs k no_tally ≡ t → t.distance ≡ d → times ≡ counted_on t.times
    → tallied d xs ≡ take k xs ++ tallied d (drop k xs) → set xs k (record { distance = t.distance; times = times }) ≡ tallied d xs
tally_here d xs k t times lt is same more found =
    let counted : Tally = record { distance = t.distance; times = counted_on t.times } in
    let test : (t.distance == d) ≡ true = eq-eqb t.distance d same in
    let rest : drop k xs ≡ t ∷ drop (k + 1) xs = drop_more xs k no_tally lt ∙ ap (λ u. u ∷ drop (k + 1) xs) is in
    let here : tallied d (drop k xs) ≡ counted ∷ drop (k + 1) xs =
    ap (tallied d) rest ∙ ap (λ (b : Bool). if b then counted ∷ drop (k + 1) xs else t ∷ tallied d (drop (k + 1) xs)) test in
    let next : suc k ≡ k + 1 = omega arith in
    ap (λ n. set xs k (record { distance = t.distance; times = n })) more
    ∙ (set_split xs k counted lt ∙ (ap (λ n. take k xs ++ counted ∷ drop n xs) next ∙ sym (found ∙ ap (λ ys. take k xs ++ ys) here)))

-- it is not there
pub tally_past : (d : ℕ) (xs : List Tally) (k : ℕ) → length xs ≤ k → tallied d xs ≡ take k xs ++ tallied d (drop k xs) → tallied d xs ≡ xs ++ record { distance = d; times = 1 } ∷ []
tally_past d xs k past found = found ∙ (λ t. take_all k xs past t ++ tallied d (drop_all k xs past t))
