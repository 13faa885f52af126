-- A row that is rewritten in two pieces, each by one piece of a row that is rotated.
use Rattle.std.proofs.Common.{◌≡◌, ℕ, ◌+◌, ◌-◌, ◌%◌, ◌<◌, ◌≤◌, List, ◌++◌, length, get_or, take, drop, ap, sym, subst, ◌∙◌, arith}
use Rattle.std.proofs.Math.Nat.{mod-eq_of_lt, add-mod_right}
use Rattle.std.proofs.lemmas.List.{get_or_append_left, get_or-append_right, get_or-take, get_or-drop}
use Rattle.s2_bits.specs.Rotations.{rotated}
use Rattle.s2_bits.proofs.Steps.{by_order}

pub rotated_low : (n s k : ℕ) → k < s → s ≤ n → rotated n s k ≡ n - s + k
rotated_low n s k lt le =
    let e : k + n - s ≡ n - s + k = omega arith in
    let small : n - s + k < n = omega arith in
    ap (λ x. x % n) e ∙ mod-eq_of_lt small

pub rotated_high : (n s k : ℕ) → s ≤ k → k < n → rotated n s k ≡ k - s
rotated_high n s k le lt =
    let e : k + n - s ≡ k - s + n = omega arith in
    let small : k - s < n = omega arith in
    ap (λ x. x % n) e ∙ (add-mod_right (k - s) n ∙ mod-eq_of_lt small)

pub rotated_below : (n s k : ℕ) → 1 ≤ n → rotated n s k < n
rotated_below n s k some = omega arith

pub two_pieces : {A B : Type 0} (f : A → B → A) (d : A) (e : B) (n s : ℕ) (sums first last first' last' : List A) (row low high : List B)
    → s ≤ n → length first' ≡ s
    → first ≡ take s sums → last ≡ drop s sums → low ≡ take (n - s) row → high ≡ drop (n - s) row
    → ((k : ℕ) → k < s → get_or first' k d ≡ f (get_or first k d) (get_or high k e))
    → ((k : ℕ) → k < n - s → get_or last' k d ≡ f (get_or last k d) (get_or low k e))
    → (k : ℕ) → k < n → get_or (first' ++ last') k d ≡ f (get_or sums k d) (get_or row (rotated n s k) e)
two_pieces f d e n s sums first last first' last' row low high le long pf pl rl rh one two k lt = by_order k s
    (λ b.
    let x : get_or first k d ≡ get_or sums k d = ap (λ l. get_or l k d) pf ∙ get_or-take s sums k d b in
    let y : get_or high k e ≡ get_or row (rotated n s k) e = ap (λ l. get_or l k e) rh ∙ (get_or-drop (n - s) row k e ∙ ap (λ i. get_or row i e) (sym (rotated_low n s k b le))) in
    get_or_append_left first' last' d k (subst (λ m. k < m) (sym long) b) ∙ (one k b ∙ (ap (λ v. f v (get_or high k e)) x ∙ ap (λ v. f (get_or sums k d) v) y)))
    (λ a.
    let at : s + (k - s) ≡ k = omega arith in
    let small : k - s < n - s = omega arith in
    let x : get_or last (k - s) d ≡ get_or sums k d = ap (λ l. get_or l (k - s) d) pl ∙ (get_or-drop s sums (k - s) d ∙ ap (λ i. get_or sums i d) at) in
    let y : get_or low (k - s) e ≡ get_or row (rotated n s k) e = ap (λ l. get_or l (k - s) e) rl ∙ (get_or-take (n - s) row (k - s) e small ∙ ap (λ i. get_or row i e) (sym (rotated_high n s k a lt))) in
    get_or-append_right first' last' s k d long a ∙ (two (k - s) small ∙ (ap (λ v. f v (get_or low (k - s) e)) x ∙ ap (λ v. f (get_or sums k d) v) y)))
