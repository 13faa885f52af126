-- Bits in rows of a group, and the messages of a layer by the members of its last check (own).
use Rattle.std.specs.Prelude.{ℕ, ◌+◌, ◌-◌, ◌*◌, ◌/◌, ◌%◌, ◌==◌, nat_lt, if◌then◌else◌, List, map, length, sum_by, ℤ, pos}
use Rattle.std.specs.List.{position_or_len}
use Rattle.s2_mode.specs.Shape.{Shape, information_bits}
use Rattle.s2_rows.specs.Rows.{Rows}
use Rattle.s2_matrix.specs.Code.{code_of, members}
use Rattle.s2_minsum.specs.declared.kernels.Circulant.{Circulant}
use Rattle.s2_minsum.specs.Plain.{State, is_edge}
use Rattle.s2_bits.specs.Lanes16.{signed16}
use Rattle.s2_minsum.specs.Rows.{cell}
use Rattle.s2_matrix.specs.Total.{upto}

-- the row of a bit: information bits by groups, parity bit r + q c in plane r
abbrev pub row_of_bit : Shape → ℕ → ℕ
row_of_bit s b =
    if nat_lt b (information_bits s) then b / s.group else s.groups + (b - information_bits s) % s.q

-- the lane of a bit in its row
abbrev pub lane_of_bit : Shape → ℕ → ℕ
lane_of_bit s b =
    if nat_lt b (information_bits s) then b % s.group else (b - information_bits s) / s.q

-- the bit in a lane of a row
abbrev pub bit_of : Shape → ℕ → ℕ → ℕ
bit_of s row lane =
    if nat_lt row s.groups then row * s.group + lane else information_bits s + (row - s.groups + lane * s.q)

-- how far apart the bits of a row are
abbrev pub step_of_row : Shape → ℕ → ℕ
step_of_row s row = if nat_lt row s.groups then 1 else s.q

-- the last check of layer r
abbrev pub last_check : Shape → ℕ → ℕ
last_check s r = r + (s.group - 1) * s.q

-- the member of check r + q c that corresponds to b in the layer's last check
abbrev pub forth : Shape → ℕ → ℕ → ℕ
forth s c b = bit_of s (row_of_bit s b) ((lane_of_bit s b + 1 + c) % s.group)

-- the member of the layer's last check that corresponds to i in check r + q c
abbrev pub back : Shape → ℕ → ℕ → ℕ
back s c i = bit_of s (row_of_bit s i) ((lane_of_bit s i + s.group - 1 - c) % s.group)

-- the row and the rotation that show such a member to all checks of the layer
abbrev pub entry_of : Shape → ℕ → Circulant
entry_of s b = record { row = row_of_bit s b; shift = s.group - 1 - lane_of_bit s b }

-- the entries of a layer
abbrev pub entries_of : Rows → ℕ → List Circulant
entries_of rows r = map (entry_of rows.shape) (members (code_of rows) (last_check rows.shape r))

-- the place of a bit among the entries of its check's layer
abbrev pub place_at : Rows → ℕ → ℕ → ℕ
place_at rows j i =
    position_or_len (λ b. b == back rows.shape (j / rows.shape.q) i) (members (code_of rows) (last_check rows.shape (j % rows.shape.q)))

-- messages that are kept by layer, entry and lane
abbrev pub message_of : Rows → (ℕ → ℕ → ℕ → ℕ) → ℕ → ℕ → ℤ
message_of rows kept j i =
    if is_edge (code_of rows) j i then signed16 (kept (j % rows.shape.q) (place_at rows j i) (j / rows.shape.q)) else pos 0

abbrev pub state_of : Rows → List ℤ → (ℕ → ℕ → ℕ → ℕ) → State
state_of rows soft kept = record { soft = soft; message = message_of rows kept }

-- the row that lane 0 of layer r lacks: the last one for layer 0, none for any other
abbrev pub lacked_row : Shape → ℕ → ℕ
lacked_row s r = if r == 0 then s.groups + s.q - 1 else s.groups + s.q

-- how many entries a layer has
abbrev pub entry_count : Rows → ℕ → ℕ
entry_count rows r = length (members (code_of rows) (last_check rows.shape r))

-- how many entries the layers before a layer have
abbrev pub first_row : Rows → ℕ → ℕ
first_row rows r = sum_by (entry_count rows) (upto r)

-- messages in one list, layer by layer, entry by entry, lane by lane
abbrev pub kept_of : Rows → List ℕ → ℕ → ℕ → ℕ → ℕ
kept_of rows messages r e c = cell messages rows.shape.group (first_row rows r + e) c
