-- One layer: rests in rows, and for each check of each layer the entry of its target and its amount (own).
use Rattle.std.specs.Prelude.{◌≡◌, ℕ, ◌+◌, ◌*◌, ◌/◌, ◌%◌, ◌==◌, if◌then◌else◌, List, map, get_or, length}
use Rattle.s2_mode.specs.Shape.{code_bits}
use Rattle.s2_rows.specs.Rows.{Rows}
use Rattle.s2_matrix.specs.Total.{upto}
use Rattle.s2_minsum.specs.Rows.{entry_at, is_lacking, changed}
use Rattle.s2_minsum.specs.Layout.{entries_of, lacked_row}
use Rattle.s2_settle.specs.declared.course.Step.{Step}
use Rattle.s2_settle.specs.Rests.{change, received}
use Rattle.s2_settle.specs.Nodes.{least_at, amount_of}

-- the rest of each place, as a word of 16 bits that is 2^15 higher; of each check, layer by layer, the entry of its
-- target and its amount
pub record Held : Type 0 where
  pub rests : List ℕ
  pub targets : List ℕ
  pub amounts : List ℕ

abbrev pub held : List ℕ → List ℕ → List ℕ → Held
held rests targets amounts =
    record { rests = rests; targets = targets; amounts = amounts }

-- layer r of a list
abbrev pub of_layer : ℕ → ℕ → List ℕ → List ℕ
of_layer n r xs = map (λ c. get_or xs (r * n + c) 0) (upto n)

-- a list with another layer r
abbrev pub with_layer : ℕ → ℕ → List ℕ → (ℕ → ℕ) → List ℕ
with_layer n r xs f =
    map (λ k. if k / n == r then f (k % n) else get_or xs k 0) (upto (length xs))

-- the inputs of the check in lane c of layer r, by the entry of each member
abbrev pub layer_inputs : Rows → ℕ → Held → ℕ → ℕ → ℕ
layer_inputs rows r h c e =
    received rows.shape.group (entries_of rows r) (lacked_row rows.shape r) h.rests (of_layer rows.shape.group r h.targets) (of_layer rows.shape.group r h.amounts) e c

-- the entry to which the check in lane c moves, and the amount
abbrev pub new_target : Rows → ℕ → Held → ℕ → ℕ
new_target rows r h c = least_at (layer_inputs rows r h c) (length (entries_of rows r))

abbrev pub new_amount : Rows → Step → ℕ → Held → ℕ → ℕ
new_amount rows step r h c =
    amount_of step (get_or (of_layer rows.shape.group r h.targets) c 0) (get_or (of_layer rows.shape.group r h.amounts) c 0) (layer_inputs rows r h c) (length (entries_of rows r))

-- the change of the rest of its member at entry e
abbrev pub change_in : Rows → Step → ℕ → Held → ℕ → ℕ → ℕ
change_in rows step r h e c =
    if is_lacking (lacked_row rows.shape r) (entry_at (entries_of rows r) e) c then 0 else change (get_or h.targets (r * rows.shape.group + c) 0) (get_or h.amounts (r * rows.shape.group + c) 0) (new_target rows r h c) (new_amount rows step r h c) e

-- each check of layer r takes its move back and moves anew, all by the rests before the layer
abbrev pub layer : Rows → Step → Held → ℕ → Held
layer rows step h r = record {
  rests = map (changed rows.shape.group (entries_of rows r) h.rests (change_in rows step r h) (length (entries_of rows r))) (upto (length h.rests));
  targets = with_layer rows.shape.group r h.targets (new_target rows r h);
  amounts = with_layer rows.shape.group r h.amounts (new_amount rows step r h);
}

-- the sizes of the lists
pub record AreLong (rows : Rows) (h : Held) : Type 0 where
  pub rests_long : length h.rests ≡ code_bits rows.shape
  pub targets_long : length h.targets ≡ rows.shape.q * rows.shape.group
  pub amounts_long : length h.amounts ≡ rows.shape.q * rows.shape.group
