-- The positions of a block, one after the other.
use Rattle.std.proofs.Common.{◌≡◌, ℕ, ◌+◌, ◌-◌, List, [], ◌++◌, append-nil, ap, ◌∙◌, inl, inr, arith}
use Rattle.std.specs.Prelude.{nat_lt, if◌then◌else◌}
use Rattle.std.specs.List.{flat_map, range_with_len}
use Rattle.std.proofs.lemmas.Bool.{cases_lt, lt-ltb, le-ltb}
use Rattle.s2_scan.specs.Passing.{passes_at, passes_below, window_at}
use Rattle.s2_scan.specs.declared.passes.Pass.{Pass}
use Rattle.s2_scan.proofs.Ranges.{flat_more, flat_none}

-- the pass of the position whose last symbol is symbol k, if there is one
abbrev pub last_pass : ℕ → List ℕ → ℕ → List Pass
last_pass first bytes k = if nat_lt k 89 then [] else passes_at (first + (k - 89)) (window_at (k - 89) bytes)

pub none_below : (first : ℕ) (bytes : List ℕ) (front : List Pass) → front ≡ front ++ passes_below first bytes (0 - 89)
unfolding passes_below
none_below first bytes front = flat_none (λ p. passes_at (first + p) (window_at p bytes)) front

pub one_below : (first : ℕ) (bytes : List ℕ) (front : List Pass) (k : ℕ) → (front ++ passes_below first bytes (k - 89)) ++ last_pass first bytes k ≡ front ++ passes_below first bytes (k + 1 - 89)
unfolding passes_below
one_below first bytes front k =
    let f : ℕ → List Pass = λ p. passes_at (first + p) (window_at p bytes) in
    elim (cases_lt k 89) [
      | inl early ↦
          let same : k - 89 ≡ k + 1 - 89 = omega arith in
          rw (lt-ltb k 89 early) (append-nil (front ++ flat_map f (range_with_len 0 (k - 89))) ∙ ap (λ n. front ++ flat_map f (range_with_len 0 n)) same)
      | inr late ↦
          let next : k - 89 + 1 ≡ k + 1 - 89 = omega arith in
          rw (le-ltb k 89 late) (flat_more f front (k - 89) ∙ ap (λ n. front ++ flat_map f (range_with_len 0 n)) next)
    ]
