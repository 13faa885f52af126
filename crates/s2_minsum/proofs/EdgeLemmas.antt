-- The check and the member of an edge by its number.
use Rattle.std.proofs.Common.{◌≡◌, ℕ, ◌+◌, ◌-◌, ◌<◌, ◌≤◌, ◌==◌, true, length, get_or, ℤ, ap, sym, ◌∙◌, inl, inr, arith}
use Rattle.std.specs.List.{position_or_len}
use Rattle.std.proofs.lemmas.Bool.{cases_lt}
use Rattle.s2_matrix.specs.Code.{Code, members, first_edge, edge_of}
use Rattle.s2_matrix.proofs.Members.{first_edge_more, first_edge-le, place_in_members}
use Rattle.s2_minsum.specs.Plain.{State, is_edge}
use Rattle.s2_minsum.proofs.Columns.{found}
use Rattle.s2_minsum.proofs.StepStates.{edge_parts}

-- the edges of a check end where those of a later one begin, or before
first_edge_before : (code : Code) (j k : ℕ) → j < k → first_edge code (j + 1) ≤ first_edge code k
first_edge_before code j k lt =
    let all : j + 1 + (k - (j + 1)) ≡ k = omega arith in
    omega (arith, first_edge-le code (j + 1) (k - (j + 1)), ap (first_edge code) all)

pub at_low : (code : Code) (edge c first : ℕ) → first ≡ first_edge code c → first_edge code c ≤ edge → edge < first_edge code (c + 1) → edge - first < length (members code c)
at_low code edge c first is low high = omega (arith, is, low, high, first_edge_more code c)

-- one check has the edge
same_check : (code : Code) (edge c j : ℕ) → first_edge code c ≤ edge → edge < first_edge code (c + 1) → first_edge code j ≤ edge → edge < first_edge code (j + 1) → j ≡ c
same_check code edge c j low high low' high' = elim (cases_lt j c) [
  | inl lt ↦ (let before = first_edge_before code j c lt in absurd (omega arith))
  | inr le ↦ elim (cases_lt c j) [
    | inl lt ↦ (let before = first_edge_before code c j lt in absurd (omega arith))
    | inr ge ↦ omega arith
  ]
]

-- the message at the place of an edge among its check's members is that of each pair with this edge
pub message_is : (code : Code) (s : State) (edge c first : ℕ) (sent : ℤ) → first ≡ first_edge code c → first_edge code c ≤ edge → edge < first_edge code (c + 1) → sent ≡ s.message c (get_or (members code c) (edge - first) 0)
    → (j i : ℕ) → is_edge code j i ≡ true → edge_of code j i ≡ edge → sent ≡ s.message j i
message_is code s edge c first sent is low high sent_is j i has same =
    let parts = edge_parts code j i has in
    let place = position_or_len (λ m. m == i) (members code j) in
    let inside : place < length (members code j) = place_in_members code i j parts.1.0 parts.1.1 in
    let low' : first_edge code j ≤ edge = omega (arith, same) in
    let high' : edge < first_edge code (j + 1) = omega (arith, same, inside, first_edge_more code j) in
    let check : j ≡ c = same_check code edge c j low high low' high' in
    let at : edge - first ≡ place = omega (arith, is, same, ap (first_edge code) check) in
    let member : get_or (members code c) (edge - first) 0 ≡ i = (λ x. get_or (members code (sym check x)) (at x) 0) ∙ found (members code j) i inside in
    sent_is ∙ (λ x. s.message (sym check x) (member x))
