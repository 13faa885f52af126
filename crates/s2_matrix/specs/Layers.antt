-- The checks by layers (EN 302 307-1, 5.3.2): layer r has the checks r + q c, one for each lane c of a group.
use Rattle.std.specs.Prelude.{◌≡◌, ◌≢◌, ◌↔◌, ℕ, ◌+◌, ◌*◌, ◌/◌, ◌%◌, ◌<◌, ◌≤◌, Bool, ◌==◌, IsTrue, AllPairs, Contains, List, filter, map}
use Rattle.std.specs.List.{list_any}
use Rattle.s2_bits.specs.Rotations.{rotated}
use Rattle.s2_mode.specs.Shape.{information_bits}
use Rattle.s2_rows.specs.Rows.{Rows, IsRows, row_of}
use Rattle.s2_matrix.specs.Total.{upto}
use Rattle.s2_matrix.specs.Code.{Code, is_member}
use Rattle.s2_matrix.specs.declared.views.LayerEntry.{LayerEntry}

-- whether row g has the address r + q s; g and s are given as the place g * group + s
abbrev pub meets : Rows → ℕ → ℕ → Bool
meets rows r place =
    list_any (λ x. x == place % rows.shape.group * rows.shape.q + r) (row_of rows (place / rows.shape.group))

-- the places that layer r meets, rising: by rising group, then rising shift
abbrev pub layer_places : Rows → ℕ → List ℕ
layer_places rows r = filter (meets rows r) (upto (information_bits rows.shape))

-- the group and the shift of a place, as an entry of a layer
abbrev pub entry_of : Rows → ℕ → LayerEntry
entry_of rows place = record { group = place / rows.shape.group; shift = place % rows.shape.group }

-- the entries of layer r: group g and shift s for each address r + q s of row g
abbrev pub layer_entries : Rows → ℕ → List LayerEntry
layer_entries rows r = map (entry_of rows) (layer_places rows r)

-- the bit that an entry shows to the check in lane c: the group's bits, rotated by the shift
abbrev pub shown : Rows → LayerEntry → ℕ → ℕ
shown rows entry c = entry.group * rows.shape.group + rotated rows.shape.group entry.shift c

-- the bits of check r + q c: `by_entry`, a bit of each entry; `own`, the parity bit of its number; `before`, the one
-- before that
pub data IsInLayer (rows : Rows) (r c b : ℕ) : Type 0 where
  by_entry : (entry : LayerEntry) → Contains (layer_entries rows r) entry → b ≡ shown rows entry c → IsInLayer rows r c b
  own : b ≡ information_bits rows.shape + (r + c * rows.shape.q) → IsInLayer rows r c b
  before : information_bits rows.shape ≤ b → b + 1 ≡ information_bits rows.shape + (r + c * rows.shape.q) → IsInLayer rows r c b

-- these are the members of the check, and no two entries show the same bit
pub record ShowsMembers (rows : Rows) (r c : ℕ) : Type 0 where
  pub members : (b : ℕ) → IsTrue (is_member rows (r + c * rows.shape.q) b) ↔ IsInLayer rows r c b
  pub once : AllPairs (λ d e. shown rows d c ≢ shown rows e c) (layer_entries rows r)

-- in the code of any accepted rows, each layer shows exactly the members of each of its checks
abbrev pub LayerLaw : Type 0
LayerLaw = (rows : Rows) (r c : ℕ) → IsRows rows → r < rows.shape.q → c < rows.shape.group → ShowsMembers rows r c

-- the layers and the places that they meet, as the checks and the bits of a code
abbrev pub layer_code : Rows → Code
layer_code rows = record { bits = information_bits rows.shape; checks = rows.shape.q; has = meets rows }
