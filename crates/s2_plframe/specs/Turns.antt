-- Symbols that are rotated by quarter turns, as after a slip of a carrier loop: the search in all four rotations, the rotation
-- of a frame, and its symbols rotated back (own).
use Rattle.std.specs.Prelude.{ℕ, zero, suc, ◌-◌, min, Bool, true, false, List, length, drop, map, take, pos, ◌+ℤ◌, ◌-ℤ◌, neg_ℤ, int_lt, nat_eq, nat_lt, nat_le, if◌then◌else◌}
use Rattle.s2_mode.specs.declared.symbols.Symbol.{Symbol}
use Rattle.s2_mode.specs.Symbols.{symbol}
use Rattle.s2_mode.specs.Limits.{header_symbols}
use Rattle.s2_mode.specs.Mode.{Mode}
use Rattle.s2_scramble.specs.Rotations.{rotated_back}
use Rattle.s2_plframe.specs.Constants.{header_threshold}
use Rattle.s2_plframe.specs.Header.{header_bit}
use Rattle.s2_plframe.specs.Search.{Decision, decision, wrong_bits, wrong_bits_dummy, found, found_behind}
use Rattle.s2_plframe.specs.declared.receive.found.Found.{Found}
use Rattle.s2_plframe.specs.declared.receive.found.Found.TheVariants as founds

-- the frames that are sought: those of a mode, as sent, or in all four rotations
pub record Sought : Type 0 where
  pub mode : Mode
  pub turns : Bool

-- these frames of a mode
abbrev pub sought_of : Mode → Bool → Sought
sought_of mode turns = record { mode = mode; turns = turns }

-- a symbol rotated back by quarters, over the whole numbers: by one (Q, -I), by two (-I, -Q), by three (-Q, I)
abbrev pub turned_back : ℕ → Symbol → Symbol
turned_back zero s = s
turned_back (suc zero) s = symbol s.q (neg_ℤ s.i)
turned_back (suc (suc zero)) s = symbol (neg_ℤ s.i) (neg_ℤ s.q)
turned_back _ s = symbol (neg_ℤ s.q) s.i

-- the decisions on a symbol rotated by two quarters: I + Q and Q - I change their signs
abbrev pub opposite_decision : Symbol → Decision
opposite_decision s = record { odd = int_lt (pos 0) (s.i +ℤ s.q); even = int_lt (pos 0) (s.q -ℤ s.i) }

-- the decisions on a symbol, and on the symbol rotated by two quarters
pub record Sides : Type 0 where
  pub straight : Decision
  pub opposite : Decision

-- the opposite decisions of a search in one rotation
abbrev pub undecided : Decision
undecided = record { odd = false; even = false }

-- the decisions on a symbol for a search, in one rotation or in all four
abbrev pub sides : Bool → Symbol → Sides
sides turns s = record { straight = decision s; opposite = if turns then opposite_decision s else undecided }

-- the decisions on the symbol rotated back by quarters (`laws::rotations`): a quarter makes Q - I of I + Q, and -(I + Q)
-- of Q - I
abbrev pub side_at : ℕ → Sides → Decision
side_at zero s = s.straight
side_at (suc zero) s = record { odd = s.straight.even; even = s.opposite.odd }
side_at (suc (suc zero)) s = s.opposite
side_at _ s = record { odd = s.opposite.even; even = s.straight.odd }

-- those on symbols rotated back by t quarters
abbrev pub turned_window : ℕ → List Sides → List Decision
turned_window t seen = map (side_at t) seen

-- the least of four numbers
abbrev pub least_of : (ℕ → ℕ) → ℕ
least_of wrong = min (min (wrong 0) (wrong 1)) (min (wrong 2) (wrong 3))

-- the first of them that is the least
abbrev pub first_least : (ℕ → ℕ) → ℕ
first_least wrong =
    if nat_eq (wrong 0) (least_of wrong) then 0 else (if nat_eq (wrong 1) (least_of wrong) then 1 else (if nat_eq (wrong 2) (least_of wrong) then 2 else 3))

-- how many bits of symbols rotated back by t quarters differ from the header of a mode
abbrev pub wrong_at : Mode → List Sides → ℕ → ℕ
wrong_at m seen t = wrong_bits (header_bit m) (turned_window t seen)

-- the same for the nearest of the four dummy headers
abbrev pub wrong_dummy_at : List Sides → ℕ → ℕ
wrong_dummy_at seen t = wrong_bits_dummy (turned_window t seen)

-- the usual test by the wrong bits of the mode's header and of a dummy header
abbrev pub found_of : ℕ → ℕ → Found
found_of coded dummy = if nat_le coded header_threshold then founds.Coded else (if nat_le dummy header_threshold then founds.Dummy else founds.Nothing)

-- the test right after a frame: the nearest header passes, and on a tie the mode's
abbrev pub nearest_of : ℕ → ℕ → ℕ → Found
nearest_of coded dummy lock =
    if nat_le coded dummy then (if nat_le coded lock then founds.Coded else founds.Nothing) else (if nat_le dummy lock then founds.Dummy else founds.Nothing)

-- What the last 90 symbols are. If all rotations are sought, a header has the wrong bits of the rotation in which it has
-- the fewest
abbrev pub found_in : Sought → List Sides → Found
found_in s seen =
    if s.turns
    then (if nat_lt (length seen) header_symbols then founds.Nothing else found_of (least_of (wrong_at s.mode seen)) (least_of (wrong_dummy_at seen)))
    else found s.mode (map (λ x. x.straight) seen)

-- what 90 symbols right after a frame are
abbrev pub behind_in : Sought → ℕ → List Sides → Found
behind_in s lock seen =
    if s.turns
    then nearest_of (least_of (wrong_at s.mode seen)) (least_of (wrong_dummy_at seen)) lock
    else found_behind s.mode lock (map (λ x. x.straight) seen)

-- The rotation of a frame, 0 to 3, by its first 90 symbols alone. After rotating back by it, its header has the fewest
-- wrong bits; of equals the smallest counts
unfoldable pub turn_of : Mode → List Symbol → ℕ
turn_of m frame = first_least (wrong_at m (map (sides true) (take header_symbols frame)))

-- a frame's symbols, rotated back by its rotation; the negative of -32768 is 32767
unfoldable pub derotated : Mode → List Symbol → List Symbol
derotated m frame = map (rotated_back (turn_of m frame)) frame

-- the last 90 of a list
abbrev pub recent : List Sides → List Sides
recent seen = drop (length seen - header_symbols) seen

-- the frames that are sought, and the decisions on the last symbols, at most 90
pub record Search : Type 0 where
  pub sought : Sought
  pub seen : List Sides

-- a search for these frames that has seen these decisions
abbrev pub search_of : Sought → List Sides → Search
search_of sought seen = record { sought = sought; seen = seen }
