-- Edges as two lists, a check and a bit at each place, and the flat lists of a matrix (own).
use Rattle.std.specs.Prelude.{◌≡◌, ℕ, ◌+◌, ◌*◌, ◌<◌, ◌≤◌, Bool, if◌then◌else◌, All, filter, List, [], ◌∷◌, ◌++◌, map, length, get_or, replicate}
use Rattle.s2_matrix.specs.Total.{upto}
use Rattle.s2_rows.specs.Rows.{Rows, IsRows}
use Rattle.s2_rows.specs.Limits.{max_addresses}
use Rattle.s2_matrix.specs.Code.{Code, code_of, members, checks_of, first_edge, edges_at}
use Rattle.s2_matrix.specs.CountingSort.{with_key}
use Rattle.s2_matrix.specs.Joined.{joined}
use Rattle.s2_matrix.specs.Limits.{max_edges}
use Rattle.s2_matrix.specs.Layers.{layer_places}

-- the checks of the test gain the bit, by at most n new edges
pub record Gains (count : ℕ) (cs bs cs' bs' : List ℕ) (test : ℕ → Bool) (bit most : ℕ) : Type 0 where
  pub paired : length bs' ≡ length cs'
  pub below : All (λ k. k < count) cs'
  pub few : length cs' ≤ length cs + most
  pub gained : (j : ℕ) → j < count → with_key cs' bs' j ≡ with_key cs bs j ++ (if test j then bit ∷ [] else [])

-- the edges of the bits below n
pub record AreEdges (code : Code) (n : ℕ) (cs bs : List ℕ) : Type 0 where
  pub paired : length bs ≡ length cs
  pub below : All (λ k. k < code.checks) cs
  pub few : length cs ≤ max_addresses * n
  pub are : (j : ℕ) → j < code.checks → with_key cs bs j ≡ filter (code.has j) (upto n)

-- the checks of all edges, in the order of the edges of the checks below n
abbrev pub owners : List (List ℕ) → ℕ → List ℕ
owners lists n = joined (map (λ j. replicate (length (get_or lists j [])) j) (upto n))

-- what the flat lists of a matrix hold
pub record IsMatrix (r : Rows) (by_check edges checks layers : List (List ℕ)) : Type 0 where
  pub rows : IsRows r
  pub few_edges : first_edge (code_of r) (code_of r).checks ≤ max_edges
  pub by_check_is : by_check ≡ map (members (code_of r)) (upto (code_of r).checks)
  pub edges_is : edges ≡ map (edges_at (code_of r)) (upto (code_of r).bits)
  pub checks_is : checks ≡ map (checks_of (code_of r)) (upto (code_of r).bits)
  pub layers_is : layers ≡ map (layer_places r) (upto r.shape.q)

-- the members of the checks below n, check by check
abbrev pub flat : Code → ℕ → List ℕ
flat code n = joined (map (members code) (upto n))
