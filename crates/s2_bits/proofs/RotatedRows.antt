-- A row to which a rotated row is added in two pieces.
use Rattle.std.proofs.Common.{◌≡◌, ℕ, ◌-◌, ◌%◌, ◌<◌, ◌≤◌, List, ◌++◌, length, get_or, take, drop, ap, sym, ◌∙◌, arith}
use Rattle.s2_bits.specs.Rotations.{rotated, rotated_back}
use Rattle.s2_bits.proofs.Pieces.{two_pieces}

pub rotated_added : (plus : ℕ → ℕ → ℕ) (n s : ℕ) (row low high low' high' changes first last : List ℕ)
    → s ≤ n → length low' ≡ n - s
    → low ≡ take (n - s) row → high ≡ drop (n - s) row → first ≡ take s changes → last ≡ drop s changes
    → ((k : ℕ) → k < n - s → get_or low' k 0 ≡ plus (get_or low k 0) (get_or last k 0))
    → ((k : ℕ) → k < s → get_or high' k 0 ≡ plus (get_or high k 0) (get_or first k 0))
    → (k : ℕ) → k < n → get_or (low' ++ high') k 0 ≡ plus (get_or row k 0) (get_or changes (rotated_back n s k) 0)
rotated_added plus n s row low high low' high' changes first last le long rl rh cf cl one two k lt =
    let back : n - (n - s) ≡ s = omega arith in
    let turn : rotated n (n - s) k ≡ rotated_back n s k = ap (λ x. x % n) (omega arith) in
    two_pieces plus 0 0 n (n - s) row low high low' high' changes first last (omega arith) long rl rh (cf ∙ ap (λ x. take x changes) (sym back)) (cl ∙ ap (λ x. drop x changes) (sym back)) one (λ j l. two j (omega arith)) k lt
    ∙ ap (λ x. plus (get_or row k 0) (get_or changes x 0)) turn
