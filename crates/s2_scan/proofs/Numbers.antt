-- The first candidate of frames with pilots.
use Rattle.std.proofs.Common.{◌≡◌, ℕ, ◌+◌, ◌<◌, ◌≤◌, Bool, true, List, ◌∷◌, cond, length, get_or, drop, Option, None, Result, IfOk, ap, sym, ◌∙◌, subst, refl}
use Rattle.std.proofs.lemmas.List.{drop_all, drop_more}
use Rattle.s2_scan.specs.Pilots.{IsNumber, IsNumberBy, IsNumberOf, is_piloted, piloted}
use Rattle.s2_scan.specs.declared.passes.Pass.{Pass}
use Rattle.s2_scan.specs.declared.candidate.Candidate.{Candidate}
use Rattle.s2_scan.proofs.Gaps.{no_candidate}

-- it is this one
pub number_here : {E : Type 0} (bytes : List ℕ) (passes : List Pass) (ss : List Candidate) (k : ℕ) (r : Result (Option ℕ) E) → k < length ss → is_piloted (get_or ss k no_candidate).header ≡ true
    → piloted (drop k ss) ≡ piloted ss → IfOk r (IsNumberBy bytes passes (get_or ss k no_candidate)) → IfOk r (IsNumber bytes passes ss)
number_here bytes passes ss k r lt is same by =
    let s = get_or ss k no_candidate in
    let others = piloted (drop (k + 1) ss) in
    let first : piloted ss ≡ s ∷ others = sym same ∙ (ap piloted (drop_more ss k no_candidate lt) ∙ ap (λ (b : Bool). cond b (s ∷ others) others) is) in
    subst (λ (ps : List Candidate). IfOk r (IsNumberOf bytes passes ps)) (sym first) by

-- there is none
pub number_none : (bytes : List ℕ) (passes : List Pass) (ss : List Candidate) (k : ℕ) → length ss ≤ k → piloted (drop k ss) ≡ piloted ss → IsNumber bytes passes ss None
number_none bytes passes ss k past same =
    subst (λ (ps : List Candidate). IsNumberOf bytes passes ps None) (sym (ap piloted (drop_all k ss past)) ∙ same) refl
