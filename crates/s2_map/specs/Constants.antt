-- The numbers of the constellations. Angles are the standard's (EN 302 307-1, 5.4), levels this profile's.
use Rattle.std.specs.Prelude.{ℕ}

-- both components of a point between the axes
abbrev pub diagonal : ℕ
diagonal = 700

-- the component of a point on an axis that isn't 0
abbrev pub axis : ℕ
axis = 990

-- the MODCOD of 8PSK 3/5, which alone reads the columns from the last to the first
abbrev pub psk_3_5 : ℕ
psk_3_5 = 12
