-- What only the clauses of the code itself speak of (own): decisions in registers, and headers as numbers.
use Rattle.std.specs.Prelude.{◌≡◌, ℕ, ◌+◌, ◌-◌, ◌*◌, ◌/◌, ◌^◌, ◌<◌, ◌≤◌, Bool, false, unsigned_abs, List, ◌++◌, map, take, drop, get_or, nat_le, length, Option}
use Rattle.std.specs.Io.KnownBytes.{Consumes}
use Rattle.std.specs.List.{range_with_len}
use Rattle.std.specs.Int.RustNames.{count_ones, bit_xor}
use Rattle.s2_mode.specs.Limits.{header_symbols}
use Rattle.s2_plframe.specs.Header.{header_bit}
use Rattle.s2_plframe.specs.Search.{Decision, decision}
use Rattle.s2_plframe.specs.Inside.{held, IsHeader}
use Rattle.s2_scan.specs.Forms.{undo, symbol_in}
use Rattle.s2_scan.specs.Passing.{code_at, header_count, matches_sof, passes_below, sof_threshold}
use Rattle.s2_scan.specs.Pilots.{front_of, pilot_count}
use Rattle.s2_scan.specs.Sums.{no_sum}
use Rattle.s2_scan.specs.Scanning.{AreSeen}
use Rattle.s2_scan.specs.declared.passes.Pass.{Pass}
use Rattle.s2_scan.specs.declared.reading.Feed.{Feed}
use Rattle.s2_scan.specs.declared.sums.Sum.{Sum}

-- the decisions on the last 90 symbols that two registers hold, with an orientation undone
unfoldable pub decisions_by : ℕ → ℕ → ℕ → List Decision
decisions_by orientation odd even = map (λ k. undo orientation (held odd even (header_symbols - 1 - k))) (range_with_len 0 header_symbols)

-- the test of the start of frame on numbers of 90 bits
abbrev pub sof_at : ℕ → ℕ → Bool
sof_at header window = nat_le (count_ones (bit_xor header window / 2 ^ 64)) sof_threshold

-- the start of frame matches in no orientation
abbrev pub NoneMatches : ℕ → ℕ → Type 0
NoneMatches odd even = (orientation : ℕ) → orientation < 8 → matches_sof (decisions_by orientation odd even) ≡ false

-- all headers as numbers
abbrev pub AreHeaders : List ℕ → Type 0
AreHeaders numbers = (h : ℕ) → h < header_count → IsHeader (header_bit (code_at h)) (get_or numbers h 0)

-- registers hold the decisions on the symbols before symbol n of bytes, at most 90, in a byte order
pub record HoldsLast (little : Bool) (bytes : List ℕ) (n odd even : ℕ) : Type 0 where
  pub each : (j : ℕ) → j < n → j < 90 → held odd even j ≡ decision (symbol_in little bytes (n - 1 - j))

-- registers hold the decisions on the symbols of a window, in a byte order
pub record HoldsWindow (little : Bool) (window : List ℕ) (odd even : ℕ) : Type 0 where
  pub each : (k : ℕ) → k < 90 → held odd even (89 - k) ≡ decision (symbol_in little window k)

-- a reader gave the bytes that fill a block up to a place, after those that it has held
pub record Filled (old new : Option (List ℕ)) (before after : List ℕ) (held total : ℕ) : Type 0 where
  pub piece : List ℕ
  pub consumed : Consumes old new piece
  pub size : held + length piece ≡ total
  pub joined : take total after ≡ take held before ++ piece

-- The state of reading: the bytes read so far, and the passes of all positions but the last ones. Their bytes are at the
-- front of the block
pub record Fed (origin rest : Option (List ℕ)) (block : List ℕ) (held first : ℕ) (passes : List Pass) (front : List ℕ) : Type 0 where
  pub bytes : List ℕ
  pub consumed : Consumes origin rest bytes
  pub size : length bytes ≡ 4 * first + held
  pub kept : take held block ≡ drop (4 * first) bytes
  pub found : passes ≡ passes_below 0 bytes first
  pub early : held < 356 → first ≡ 0
  pub begun : front ≡ front_of bytes

-- a feed is in that state
abbrev pub FedBy : Option (List ℕ) → Option (List ℕ) → Feed → Type 0
FedBy origin rest feed = Fed origin rest feed.block.items feed.held feed.first feed.passes.items feed.front.items

-- a feed stays in that state over a block
abbrev pub GoesOn : Option (List ℕ) → Feed → Option (List ℕ) → Feed → Type 0
GoesOn rest feed rest' feed' = (origin : Option (List ℕ)) → FedBy origin rest feed → FedBy origin rest' feed'

-- a recording ends with a block, and these are its passes and its first bytes, if it is not too long
abbrev pub Completes : Option (List ℕ) → Feed → List Pass → List ℕ → Type 0
Completes rest feed passes front = (origin : Option (List ℕ)) → FedBy origin rest feed → feed.first + 8192 ≤ 2 ^ 40 → AreSeen origin passes front

-- both components of a sum are at most this, or its negative at least
pub record IsWithin (most : ℕ) (s : Sum) : Type 0 where
  pub i : unsigned_abs s.i ≤ most
  pub q : unsigned_abs s.q ≤ most

-- these are the sums of all pilots, each of at most 16 symbols
pub record AreWithin (sums : List Sum) : Type 0 where
  pub size : length sums ≡ pilot_count
  pub each : (k : ℕ) → k < pilot_count → IsWithin 524288 (get_or sums k no_sum)
