-- Certificate files: the accepted ones, and the first refusal of any other (own). Read from top to bottom; big endian,
-- two's complement.
use Rattle.std.specs.Prelude.{◌≡◌, ◌↔◌, IsTrue, ℕ, ◌≤◌, nat_le, nat_lt, ◌==◌, ◌||◌, ◌&&◌, Bool, if◌then◌else◌, List, [], ◌∷◌, ◌++◌, length, take, drop, Result, Ok, Err, ℤ}
use Rattle.std.specs.Int.{Width, w16, w32, byte_len, from_be_bytes, to_be_bytes}
use Rattle.std.specs.List.{flat_map}
use Rattle.s2_mode.specs.Shape.{Shape, IsShape, shape_of, check_count, code_bits}
use Rattle.s2_mode.specs.Limits.{max_bits, max_group}
use Rattle.s2_rows.specs.Values.{is_value}
use Rattle.s2_certfile.specs.declared.fault.CertFault.{CertFault}
use Rattle.s2_certfile.specs.declared.fault.CertFault.TheVariants as faults
use Rattle.s2_certfile.specs.declared.header.FileHeader.{FileHeader}
use Rattle.s2_certfile.specs.declared.step.Move.{Move}
use Rattle.s2_certfile.specs.declared.version.Version.{Version}
use Rattle.s2_certfile.specs.declared.version.Version.TheVariants as versions
use Rattle.s2_certfile.specs.Limits.{max_scale, max_shares}
use Rattle.s2_certfile.specs.Field.{Field, number, signed, tested, both, many, bit_list}
use Rattle.s2_certfile.specs.File.{File, IsFile, Split, Listed, Moved}

-- one reading, and then another
infixl 10 ◌>>=◌
abbrev pub ◌>>=◌ : {A B : Type 0} → Result A CertFault → (A → Result B CertFault) → Result B CertFault
(Ok x) >>= f = f x
(Err e) >>= f = Err e

-- a demand, or its refusal
abbrev pub demand : {A : Type 0} → Bool → CertFault → Result A CertFault → Result A CertFault
demand holds fault next = if holds then next else Err fault

-- ---- the front: S2ML and the version's byte; each refuses a byte that is there and is another one

abbrev pub letter_at : ℕ → List ℕ → Result (List ℕ) CertFault
letter_at letter [] = Err faults.Cut
letter_at letter (byte ∷ rest) = if byte == letter then Ok rest else Err faults.Magic

abbrev pub version_at : List ℕ → Result (Version × List ℕ) CertFault
version_at [] = Err faults.Cut
version_at (byte ∷ rest) =
    if byte == 1 then Ok (versions.Listed, rest) else if byte == 2 then Ok (versions.Moved, rest) else Err faults.Magic

-- `S2ML` and the version's byte, letter by letter: `Cut` if the bytes end, `Magic` at another byte
unfoldable pub front_at : List ℕ → Result (Version × List ℕ) CertFault
front_at bytes = do
  s ← letter_at 83 bytes
  two ← letter_at 50 s
  m ← letter_at 77 two
  l ← letter_at 76 m
  version_at l

-- ---- the header: the shape and the scale in two bytes each, and the count of shares in four; moves have no count

abbrev pub number_at : Width → List ℕ → Result (ℕ × List ℕ) CertFault
number_at w bytes =
    if nat_lt (length bytes) (byte_len w) then Err faults.Cut else Ok (from_be_bytes w (take (byte_len w) bytes), drop (byte_len w) bytes)

-- the number of shares, four bytes in version 1; version 2 has none, and one move for each check
abbrev pub count_at : Version → Shape → List ℕ → Result (ℕ × List ℕ) CertFault
count_at versions.Listed shape bytes = number_at w32 bytes
count_at versions.Moved shape bytes = Ok (check_count shape, bytes)

-- numbers that are a shape
abbrev pub is_shape : Shape → Bool
is_shape s =
    nat_le 1 s.group && (nat_le s.group max_group && (nat_le 1 s.groups && (nat_le 1 s.q && nat_le (code_bits s) max_bits)))

-- the test and IsShape say the same
abbrev pub ShapeLaw : Type 0
ShapeLaw = (s : Shape) → IsTrue (is_shape s) ↔ IsShape s

-- a scale within its limits, and not too many shares
abbrev pub is_ranged : FileHeader → Bool
is_ranged h = nat_le 1 h.scale && (nat_le h.scale max_scale && nat_le h.count max_shares)

-- a move for each check
abbrev pub IsCount : Version → Shape → ℕ → Type 0
IsCount versions.Listed shape count = Unit
IsCount versions.Moved shape count = count ≡ check_count shape

-- facts about the header of a file
pub record IsHeader (h : FileHeader) : Type 0 where
  pub shaped : IsShape h.shape
  pub scale_some : 1 ≤ h.scale
  pub scale_most : h.scale ≤ max_scale
  pub few : h.count ≤ max_shares
  pub counted : IsCount h.version h.shape h.count

abbrev pub ranged : FileHeader → List ℕ → Result (FileHeader × List ℕ) CertFault
ranged h rest = demand (is_shape h.shape) faults.Shape (demand (is_ranged h) faults.Range (Ok (h, rest)))

-- group, groups, q and scale, two bytes each, then the number of shares; then the tests of the shape and of the ranges
unfoldable pub header_at : Version → List ℕ → Result (FileHeader × List ℕ) CertFault
header_at version bytes = do
  group ← number_at w16 bytes
  groups ← number_at w16 group.1
  q ← number_at w16 groups.1
  scale ← number_at w16 q.1
  count ← count_at version (shape_of group.0 groups.0 q.0) scale.1
  ranged (record { version = version; shape = shape_of group.0 groups.0 q.0; scale = scale.0; count = count.0 }) count.1

-- ---- the body: a soft value and a bit for each place of a codeword, and the split

-- how wide a soft value is
abbrev pub soft_width : Width
soft_width = w16

-- a soft value: a number of `soft_width` bits in two's complement, within its range
abbrev pub soft : Field ℤ
soft = tested (signed soft_width) is_value

-- a share: a number of 32 bits in two's complement
abbrev pub share : Field ℤ
share = signed w32

abbrev pub move_of : ℕ × ℕ → Move
move_of m = record { place = m.0; amount = m.1 }

-- an amount below 2^31, and place 0 if the amount is 0
abbrev pub is_move : Move → Bool
is_move m = nat_lt m.amount 2147483648 && (nat_lt 0 m.amount || (m.place == 0))

-- the target's place among the members of its check, and the amount
abbrev pub move_numbers : Field (ℕ × ℕ)
move_numbers = both (number w16) (number w32)

-- a move: a place in two bytes, an amount in four, as `is_move` says
abbrev pub move : Field Move
move = record {
  size = move_numbers.size;
  test = λ bytes. is_move (move_of (move_numbers.value bytes));
  value = λ bytes. move_of (move_numbers.value bytes);
  bytes = λ m. move_numbers.bytes (m.place, m.amount);
}

abbrev pub split_bytes : Split → List ℕ
split_bytes (Listed shares) = flat_map share.bytes shares
split_bytes (Moved moves) = flat_map move.bytes moves

-- the split: n shares in version 1, n moves in version 2
abbrev pub split : Version → ℕ → Field Split
split versions.Listed n = record {
  size = (many n share).size;
  test = (many n share).test;
  value = λ bytes. Listed ((many n share).value bytes);
  bytes = split_bytes;
}
split versions.Moved n = record {
  size = (many n move).size;
  test = (many n move).test;
  value = λ bytes. Moved ((many n move).value bytes);
  bytes = split_bytes;
}

-- the fields after the header: n soft values, n bits, the split
abbrev pub body : FileHeader → Field (List ℤ × (List Bool × Split))
body h =
    both (many (code_bits h.shape) soft) (both (bit_list (code_bits h.shape)) (split h.version h.count))

abbrev pub file_of : FileHeader → List ℤ × (List Bool × Split) → File
file_of h x = record { shape = h.shape; scale = h.scale; soft = x.0; bits = x.1.0; split = x.1.1 }

-- the test of the length that the header gives (`Cut`, `Extra`), then every field's test (`Range`)
abbrev pub body_at : FileHeader → List ℕ → Result File CertFault
body_at h bytes =
    demand (nat_le (body h).size (length bytes)) faults.Cut (
    demand (nat_le (length bytes) (body h).size) faults.Extra (
    demand ((body h).test bytes) faults.Range (
    Ok (file_of h ((body h).value bytes)))))

-- ---- the file

-- what a file says, or its first refusal
unfoldable pub file_of_bytes : List ℕ → Result File CertFault
file_of_bytes bytes = do
  front ← front_at bytes
  header ← header_at front.0 front.1
  body_at header.0 header.1

-- ---- the bytes of a file

abbrev pub version_of : Split → Version
version_of (Listed shares) = versions.Listed
version_of (Moved moves) = versions.Moved

abbrev pub version_byte : Version → ℕ
version_byte versions.Listed = 1
version_byte versions.Moved = 2

abbrev pub count_of : Split → ℕ
count_of (Listed shares) = length shares
count_of (Moved moves) = length moves

abbrev pub count_bytes : Version → ℕ → List ℕ
count_bytes versions.Listed count = to_be_bytes w32 count
count_bytes versions.Moved count = []

abbrev pub header_of : File → FileHeader
header_of f = record { version = version_of f.split; shape = f.shape; scale = f.scale; count = count_of f.split }

-- what every version begins with
abbrev pub front_bytes : FileHeader → List ℕ
front_bytes h =
    83 ∷ 50 ∷ 77 ∷ 76 ∷ version_byte h.version ∷ to_be_bytes w16 h.shape.group ++ (to_be_bytes w16 h.shape.groups ++ (to_be_bytes w16 h.shape.q ++ to_be_bytes w16 h.scale))

-- the front and the header of a file
abbrev pub header_bytes : FileHeader → List ℕ
header_bytes h = front_bytes h ++ count_bytes h.version h.count

-- the bytes of a file: its header, then its body
abbrev pub bytes_of : File → List ℕ
bytes_of f = header_bytes (header_of f) ++ (body (header_of f)).bytes (f.soft, (f.bits, f.split))

-- a written file is accepted, as the same file
abbrev pub ReadBackLaw : Type 0
ReadBackLaw = (f : File) → IsFile f → file_of_bytes (bytes_of f) ≡ Ok f
