-- The power of received symbols, and their correlation with the symbols that were sent (own). The complex gain of a link is
-- along + i across, divided by the energy of the sent symbols.
use Rattle.std.specs.Prelude.{◌≡◌, ℕ, ◌+◌, ◌-◌, ◌*◌, ◌^◌, ◌≤◌, ℤ, pos, ◌+ℤ◌, ◌-ℤ◌, ◌*ℤ◌, unsigned_abs, List, [], ◌∷◌, map}
use Rattle.s2_mode.specs.declared.symbols.Symbol.{Symbol}
use Rattle.s2_mode.specs.Symbols.{symbol, symbol_at}
use Rattle.s2_report.specs.declared.figures.Correlation.{Correlation}
use Rattle.s2_message.specs.Header.{symbol_energy}

-- of no symbol
abbrev pub no_correlation : Correlation
no_correlation = record { power = 0; along = pos 0; across = pos 0 }

-- two of them in one
abbrev pub plus : Correlation → Correlation → Correlation
plus a b = record { power = a.power + b.power; along = a.along +ℤ b.along; across = a.across +ℤ b.across }

-- what is left of one without a part of it
abbrev pub minus : Correlation → Correlation → Correlation
minus a b = record { power = a.power - b.power; along = a.along -ℤ b.along; across = a.across -ℤ b.across }

-- of a received symbol r and the symbol s that was sent: the energy of r, and r times the conjugate of s, which is
-- along + i across
abbrev pub correlation : Symbol → Symbol → Correlation
correlation r s = record { power = symbol_energy r; along = r.i *ℤ s.i +ℤ r.q *ℤ s.q; across = r.q *ℤ s.i -ℤ r.i *ℤ s.q }

-- of symbol i of a received frame, and of the frame that was sent
abbrev pub correlation_at : List Symbol → List Symbol → ℕ → Correlation
correlation_at received sent i = correlation (symbol_at received i) (symbol_at sent i)

-- terms at some places, summed
abbrev pub sum_over : (ℕ → Correlation) → List ℕ → Correlation
sum_over f [] = no_correlation
sum_over f (i ∷ places) = plus (f i) (sum_over f places)

-- of a received frame and the frame that was sent, at some places
abbrev pub correlation_over : List ℕ → List Symbol → List Symbol → Correlation
correlation_over places received sent = sum_over (correlation_at received sent) places

-- it is at most that of n symbols
pub record IsWithin (n : ℕ) (c : Correlation) : Type 0 where
  pub power : c.power ≤ 2 ^ 31 * n
  pub along : unsigned_abs c.along ≤ 2 ^ 31 * n
  pub across : unsigned_abs c.across ≤ 2 ^ 31 * n

-- both components of a symbol are multiplied by a whole number
abbrev pub scaled : ℤ → Symbol → Symbol
scaled gain s = symbol (gain *ℤ s.i) (gain *ℤ s.q)

-- the power is multiplied by the square of a whole number, and the rest by the number
abbrev pub scaled_correlation : ℤ → Correlation → Correlation
scaled_correlation gain c = record { power = unsigned_abs gain * unsigned_abs gain * c.power; along = gain *ℤ c.along; across = gain *ℤ c.across }

-- If each received symbol is multiplied by a whole number, the correlation follows exactly
abbrev pub ScalingLaw : Type 0
ScalingLaw =
    (gain : ℤ) (places : List ℕ) (received sent : List Symbol)
    → correlation_over places (map (scaled gain) received) sent ≡ scaled_correlation gain (correlation_over places received sent)
