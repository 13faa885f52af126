-- Made rows: what a shape, a weight and a seed determine (own).
use Rattle.std.specs.Prelude.{◌≡◌, ℕ, zero, suc, ◌+◌, ◌%◌, ◌<◌, get_or, ◌==◌, ◌&&◌, nat_le, IsTrue, List, [], ◌∷◌, ◌++◌, length, Bool, Result, Ok, Err, if◌then◌else◌}
use Rattle.std.specs.List.{list_any}
use Rattle.rand_core.specs.Pcg32Seed.{pcg32_seed}
use Rattle.rand_pcg.specs.Lcg.{Lcg}
use Rattle.rand_pcg.specs.Pcg.{pcg32, pcg32_of_seed}
use Rattle.s2_mode.specs.Shape.{Shape, IsShape, check_count}
use Rattle.s2_rows.specs.Rows.{AreAddresses}
use Rattle.s2_rows.specs.Limits.{max_addresses}
use Rattle.s2_rows.specs.declared.make.MakeFault.{MakeFault}
use Rattle.s2_rows.specs.declared.make.MakeFault.TheVariants as faults

-- the first of x, x + 1, .. (modulo n - k) that is not in the row, after at most n steps
unfoldable pub free_from : ℕ → List ℕ → ℕ → ℕ → ℕ
free_from checks row zero x = x
free_from checks row (suc moves) x = if list_any (λ y. y == x) row then free_from checks row moves ((x + 1) % checks) else x

-- The address that is drawn next for a row. A row has fewer addresses than there are checks, so at most one step for
-- each of its addresses is needed
abbrev pub drawn_address : ℕ → List ℕ → Lcg → ℕ
drawn_address checks row g = free_from checks row (length row) ((pcg32 g).0 % checks)

-- a row with n more drawn addresses, and the generator after them
unfoldable pub drawn_row : ℕ → ℕ → List ℕ → Lcg → List ℕ × Lcg
drawn_row checks zero row g = (row, g)
drawn_row checks (suc left) row g = drawn_row checks left (row ++ drawn_address checks row g ∷ []) (pcg32 g).1

-- n rows of a weight, one after the other
unfoldable pub drawn_rows : ℕ → ℕ → ℕ → Lcg → List (List ℕ)
drawn_rows checks weight zero g = []
drawn_rows checks weight (suc left) g = (drawn_row checks weight [] g).0 ∷ drawn_rows checks weight left (drawn_row checks weight [] g).1

-- The rows of a shape, with one generator for all. Each address is the generator's next word modulo n - k. An address
-- that its row already has moves up by one, modulo n - k, until it is new
abbrev pub made_rows : Shape → ℕ → ℕ → List (List ℕ)
made_rows shape weight seed = drawn_rows (check_count shape) weight shape.groups (pcg32_of_seed (pcg32_seed 16 seed))

-- a weight: one to 24 addresses, and at most n - k
abbrev pub is_weight : Shape → ℕ → Bool
is_weight shape weight = nat_le 1 weight && (nat_le weight max_addresses && nat_le weight (check_count shape))

abbrev pub making : Shape → ℕ → ℕ → Result (List (List ℕ)) MakeFault
making shape weight seed = if is_weight shape weight then Ok (made_rows shape weight seed) else Err faults.BadWeight

-- The result is the made rows, or that this is no weight. Memory may run out only if it is a weight
abbrev pub Makes : {V : Type 0} → (V → List (List ℕ)) → Result V MakeFault → Shape → ℕ → ℕ → Type 0
Makes view (Ok v) shape weight seed = making shape weight seed ≡ Ok (view v)
Makes view (Err faults.NoMemory) shape weight seed = IsTrue (is_weight shape weight)
Makes view (Err faults.BadWeight) shape weight seed = making shape weight seed ≡ Err faults.BadWeight

-- Properties of made rows, whatever the rule that draws them. The number of addresses in each row is the weight. All
-- are below n - k, and none is in a row twice. The first address of all is the generator's first word modulo n - k
pub record AreMadeRows (shape : Shape) (weight seed : ℕ) (rows : List (List ℕ)) : Type 0 where
  pub long : length rows ≡ shape.groups
  pub weights : (g : ℕ) → g < shape.groups → length (get_or rows g []) ≡ weight
  pub addresses : (g : ℕ) → g < shape.groups → AreAddresses (check_count shape) (get_or rows g [])
  pub first : get_or (get_or rows 0 []) 0 0 ≡ (pcg32 (pcg32_of_seed (pcg32_seed 16 seed))).0 % check_count shape

-- the rows that any shape, weight and seed determine are as `AreMadeRows` says
abbrev pub MadeRowsLaw : Type 0
MadeRowsLaw = (shape : Shape) (weight seed : ℕ) → IsShape shape → IsTrue (is_weight shape weight) → AreMadeRows shape weight seed (made_rows shape weight seed)
