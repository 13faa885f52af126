-- What the maker's lists hold while it works: for each bit its rest, for each check its move (own).
use Rattle.std.specs.Prelude.{◌≡◌, ◌≢◌, ℕ, ◌+◌, ◌*◌, ◌<◌, ◌≤◌, ◌==◌, ◌↔◌, Bool, true, false, not, if◌then◌else◌, Option, None, Some, List, length, get_or, All, filter, fold, count_by, ℤ, pos, neg_ℤ, ◌*ℤ◌, ◌-ℤ◌, ◌≤ℤ◌, int_lt}
use Rattle.std.specs.List.{list_any}
use Rattle.s2_matrix.specs.Total.{upto}
use Rattle.s2_matrix.specs.Code.{Code, members, checks_of}
use Rattle.s2_bits.specs.Bits.{bit_at}
use Rattle.s2_check.specs.Cost.{value_at}
use Rattle.s2_check.specs.Views.{IsSoft}
use Rattle.s2_check.specs.Moves.{Move, no_move, max_moved}
use Rattle.s2_mode.specs.Limits.{max_soft}
use Rattle.s2_rows.specs.Limits.{max_addresses}
use Rattle.s2_split.specs.Greedy.{Moved, rest_at, none_moved, serve}
use Rattle.s2_check.specs.Hard.{differs}
use Rattle.s2_split.specs.Spreading.{spread_scale}

-- a bit's scaled value in favour of the word
abbrev pub scaled_at : List ℤ → List Bool → ℕ → ℕ → ℤ
scaled_at soft word scale i =
    if bit_at word i then neg_ℤ (pos scale *ℤ value_at soft i) else pos scale *ℤ value_at soft i

-- whether a place is listed
abbrev pub is_among : List ℕ → ℕ → Bool
is_among places k = list_any (λ m. m == k) places

-- what a check that moves a signed amount to its target takes from the rest of a place
abbrev pub taken_at : List ℕ → ℕ → ℤ → ℕ → ℤ
taken_at members target amount k =
    if is_among members k then (if k == target then neg_ℤ amount else amount) else pos 0

-- what a check takes that takes as much from each of its members
abbrev pub evenly_at : List ℕ → ℤ → ℕ → ℤ
evenly_at members amount k = if is_among members k then amount else pos 0

-- the rest of a place once a check's move is given back
abbrev pub given_back : List ℤ → List ℕ → Move → ℕ → ℤ
given_back rests members held k =
    get_or rests k (pos 0) -ℤ taken_at members (get_or members held.place 0) (neg_ℤ (pos held.amount)) k

-- no scaled value is larger than this in size
abbrev pub max_scaled : ℕ
max_scaled = spread_scale * max_soft

-- nor a rest: a scaled value, and what each of its bit's checks moves
abbrev pub max_rest : ℕ
max_rest = max_scaled + max_addresses * max_moved

-- nor a rest while a check has given its amount back
abbrev pub max_between : ℕ
max_between = max_rest + max_moved

-- no number of a list is larger than this in size
abbrev pub AreWithin : ℕ → List ℤ → Type 0
AreWithin most xs =
    (k : ℕ) → (neg_ℤ (pos most) ≤ℤ get_or xs k (pos 0)) × (get_or xs k (pos 0) ≤ℤ pos most)

-- no rest is further below zero than a soft value
abbrev pub AreLow : List ℤ → Type 0
AreLow rests = (k : ℕ) → neg_ℤ (pos max_soft) ≤ℤ get_or rests k (pos 0)

-- two rests are negative, or neither is
abbrev pub HaveOneSign : ℤ → ℤ → Type 0
HaveOneSign a b = (pos 0 ≤ℤ a) ↔ (pos 0 ≤ℤ b)

-- no rest between two places is negative
abbrev pub NoneIsNegative : ℕ → ℕ → List ℤ → Type 0
NoneIsNegative from to rests =
    (k : ℕ) → from ≤ k → k < to → pos 0 ≤ℤ get_or rests k (pos 0)

-- how many members of a check have a negative rest
abbrev pub negatives_in : Code → List ℤ → ℕ → ℕ
negatives_in code rests j = count_by (λ i. int_lt (get_or rests i (pos 0)) (pos 0)) (members code j)

-- a count for each check
pub record AreCounted (code : Code) (rests : List ℤ) (counts : List ℕ) : Type 0 where
  pub long : length counts ≡ code.checks
  pub each : (j : ℕ) → j < code.checks → get_or counts j 0 ≡ negatives_in code rests j

-- the counts of some rests, before a bit's rest gets this sign
pub record TurnsSign (code : Code) (bit : ℕ) (becomes_negative : Bool) (counts : List ℕ) : Type 0 where
  pub rests : List ℤ
  pub counted : AreCounted code rests counts
  pub changes : int_lt (get_or rests bit (pos 0)) (pos 0) ≡ not becomes_negative

-- each bit is in few checks
abbrev pub AreFew : Code → Type 0
AreFew code = (i : ℕ) → i < code.bits → length (checks_of code i) ≤ max_addresses

-- the rests of each bit's scaled value after these moves, none of them larger than spreading makes
pub record AreRests (code : Code) (soft : List ℤ) (word : List Bool) (scale : ℕ) (m : Moved) (rests : List ℤ) : Type 0 where
  pub long : length rests ≡ code.bits
  pub are : (i : ℕ) → i < code.bits → get_or rests i (pos 0) ≡ rest_at code soft word scale m i
  pub small : (j : ℕ) → j < code.checks → m.amount j ≤ max_moved

-- a check's move in a list: an amount and its target's place among the members, 0 if the amount is 0
pub record IsHeld (code : Code) (j target amount : ℕ) (own : Move) : Type 0 where
  pub place : own.place < length (members code j)
  pub amount_is : own.amount ≡ amount
  pub target_is : amount ≢ 0 → get_or (members code j) own.place 0 ≡ target
  pub unmoved : amount ≡ 0 → own.place ≡ 0

-- the moves, check by check
pub record AreHeldMoves (code : Code) (m : Moved) (ms : List Move) : Type 0 where
  pub long : length ms ≡ code.checks
  pub each : (j : ℕ) → j < code.checks → IsHeld code j (m.target j) (m.amount j) (get_or ms j no_move)

pub record AreKept (code : Code) (soft : List ℤ) (word : List Bool) (scale : ℕ) (m : Moved) (rests : List ℤ) (ms : List Move) : Type 0 where
  pub left : AreRests code soft word scale m rests
  pub held : AreHeldMoves code m ms

-- of some soft values and some word, after some moves
pub record AreOfValues (code : Code) (scale : ℕ) (rests : List ℤ) (ms : List Move) : Type 0 where
  pub soft : List ℤ
  pub word : List Bool
  pub m : Moved
  pub range : All IsSoft soft
  pub kept : AreKept code soft word scale m rests ms

-- the greedy amounts of the bits before a place
abbrev pub served : Code → List ℤ → List Bool → ℕ → Moved
served code soft word n = fold (serve code soft word) none_moved (filter (differs soft word) (upto n))

-- what spreading finds, and whether it does
abbrev pub Ends : Code → List ℤ → List Bool → Option Moved → Bool → List ℤ → List Move → Type 0
Ends code soft word None found rests ms = found ≡ false
Ends code soft word (Some m) found rests ms = (found ≡ true) × AreKept code soft word spread_scale m rests ms
