-- The entries of a layer, and what they show.
use Rattle.std.proofs.Common.{◌≡◌, ℕ, suc, ◌+◌, ◌*◌, ◌/◌, ◌%◌, ◌<◌, ◌≤◌, cond, length, get_or, ap, arith, lt-ltb, le-ltb}
use Rattle.std.proofs.lemmas.List.{get_or-map, length-map}
use Rattle.s2_rows.specs.Rows.{Rows}
use Rattle.std.proofs.Math.Nat.{mul-le-mul_right}
use Rattle.s2_mode.specs.Shape.{Shape, IsShape, check_count}
use Rattle.s2_matrix.proofs.Joins.{div_below}
use Rattle.s2_matrix.specs.Code.{code_of, members}
use Rattle.s2_minsum.specs.Rows.{no_entry, entry_at, rotated}
use Rattle.s2_minsum.specs.Layout.{last_check, entry_of, entry_count, bit_of, entries_of}
use Rattle.s2_minsum.specs.Decoding.{AreFit}
use Rattle.s2_minsum.proofs.Places
use Rattle.s2_minsum.proofs.Columns.{member_below}
use Rattle.s2_settle.specs.Placing.{shown, place_of_check}

module _ (rows : Rows) (l : AreFit rows) (r : ℕ) (layer : r < rows.shape.q) where
  abbrev bit : ℕ → ℕ
  bit e = get_or (members (code_of rows) (last_check rows.shape r)) e 0

  own : (e : ℕ) → e < entry_count rows r → entry_at (entries_of rows r) e ≡ entry_of rows.shape (bit e)
  own e lt = get_or-map (entry_of rows.shape) (members (code_of rows) (last_check rows.shape r)) e 0 no_entry lt

  pub row_low : (e : ℕ) → e < entry_count rows r → (entry_at (entries_of rows r) e).row < rows.shape.groups + rows.shape.q
  row_low e lt = rw (own e lt) (Places.row_below rows.shape l.shaped (bit e) (member_below rows l.shaped r layer e lt))

  pub shift_low : (e : ℕ) → e < entry_count rows r → (entry_at (entries_of rows r) e).shift < rows.shape.group
  shift_low e lt = let some = l.shaped.group_some in rw (own e lt) (omega arith)

  pub shown_some : (c e : ℕ) → e < entry_count rows r → shown rows r c e ≡ bit_of rows.shape (entry_at (entries_of rows r) e).row (rotated rows.shape.group (entry_at (entries_of rows r) e).shift c)
  shown_some c e lt =
      let long = length-map (members (code_of rows) (last_check rows.shape r)) (entry_of rows.shape) in
      ap (λ b. cond b (bit_of rows.shape (entry_at (entries_of rows r) e).row (rotated rows.shape.group (entry_at (entries_of rows r) e).shift c)) 0) (lt-ltb e (length (entries_of rows r)) (omega (arith, long)))

  pub shown_none : (c e : ℕ) → entry_count rows r ≤ e → shown rows r c e ≡ 0
  shown_none c e le =
      let long = length-map (members (code_of rows) (last_check rows.shape r)) (entry_of rows.shape) in
      ap (λ b. cond b (bit_of rows.shape (entry_at (entries_of rows r) e).row (rotated rows.shape.group (entry_at (entries_of rows r) e).shift c)) 0) (le-ltb e (length (entries_of rows r)) (omega (arith, long)))

pub lane_low : (s : Shape) → IsShape s → (j : ℕ) → j < check_count s → j / s.q < s.group
lane_low s shaped j lt = div_below j s.q s.group shaped.q_some (omega arith)

pub place_low : (s : Shape) → IsShape s → (j : ℕ) → j < check_count s → place_of_check s j < s.q * s.group
place_low s shaped j lt =
    let lane = lane_low s shaped j lt in
    let some = shaped.q_some in
    let small : j % s.q < s.q = omega arith in
    let more : suc (j % s.q) * s.group ≤ s.q * s.group = mul-le-mul_right s.group small in
    omega arith
