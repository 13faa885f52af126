-- The orientations of a recording, by its symbols (own).
use Rattle.std.specs.Prelude.{◌≡◌, ◌≢◌, neg_ℤ}
use Rattle.s2_mode.specs.declared.symbols.Symbol.{Symbol}
use Rattle.s2_mode.specs.Symbols.{symbol}
use Rattle.s2_plframe.specs.Search.{decision}
use Rattle.s2_scan.specs.Forms.{conjugated, quarter_turned}

-- a symbol on no diagonal: I is neither Q nor -Q, so no decision is a tie
pub record IsClear (s : Symbol) : Type 0 where
  pub apart : s.i ≢ s.q
  pub opposite : s.i ≢ neg_ℤ s.q

-- a symbol after a quarter turn: it is multiplied by i
abbrev pub turned : Symbol → Symbol
turned s = symbol (neg_ℤ s.q) s.i

-- the conjugate symbol
abbrev pub conjugate : Symbol → Symbol
conjugate s = symbol s.i (neg_ℤ s.q)

-- the decisions on a rotated and on a conjugate symbol
pub record Follows (s : Symbol) : Type 0 where
  pub turns : decision (turned s) ≡ quarter_turned (decision s)
  pub conjugates : decision (conjugate s) ≡ conjugated (decision s)

-- rotated symbols have rotated decisions, and conjugate symbols conjugate ones
abbrev pub OrientationLaw : Type 0
OrientationLaw = (s : Symbol) → IsClear s → Follows s
