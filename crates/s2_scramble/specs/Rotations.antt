-- Symbols rotated by quarters, over numbers of 16 bits (EN 302 307-1, 5.5.4).
use Rattle.std.specs.Prelude.{◌≡◌, ℕ, zero, suc, ◌<◌, ◌≤◌, ℤ, pos, negsuc, neg_ℤ, ◌<ℤ◌, ◌≤ℤ◌, List, length, slice_index}
use Rattle.std.specs.Int.{int_min}
use Rattle.s2_mode.specs.declared.symbols.Symbol.{Symbol}
use Rattle.s2_mode.specs.Symbols.{symbol}
use Rattle.s2_scramble.specs.Gold.{max_number, max_scrambled, quarter_turns}

-- the negative, and 32767 for -32768
abbrev pub negative : ℤ → ℤ
negative c = int_min (neg_ℤ c) (pos 32767)

-- by one quarter (-Q, I), by two (-I, -Q), by three (Q, -I)
abbrev pub rotated : ℕ → Symbol → Symbol
rotated zero s = s
rotated (suc zero) s = symbol (negative s.q) s.i
rotated (suc (suc zero)) s = symbol (negative s.i) (negative s.q)
rotated _ s = symbol s.q (negative s.i)

-- rotated back by quarters: by one (Q, -I), by two (-I, -Q), by three (-Q, I)
abbrev pub rotated_back : ℕ → Symbol → Symbol
rotated_back zero s = s
rotated_back (suc zero) s = symbol s.q (negative s.i)
rotated_back (suc (suc zero)) s = symbol (negative s.i) (negative s.q)
rotated_back _ s = symbol (negative s.q) s.i

-- a number of 16 bits that is not -32768
abbrev pub HasNegative : ℤ → Type 0
HasNegative c = (negsuc 32767 <ℤ c) × (c ≤ℤ pos 32767)

-- both components of a symbol are such numbers
pub record CanRotateBack (s : Symbol) : Type 0 where
  pub i : HasNegative s.i
  pub q : HasNegative s.q

-- a table of the quarters by which the symbols after a header are rotated
pub record HoldsRotations (number : ℕ) (quarters : List ℕ) : Type 0 where
  pub few : number ≤ max_number
  pub long : length quarters ≡ max_scrambled
  pub each : (i : ℕ) → i < max_scrambled → slice_index quarters i ≡ quarter_turns number i
