-- The standard's Es/N0 (EN 302 307-1, table 13).
use Rattle.std.specs.Prelude.{ℕ, ◌+◌, ◌/◌, ◌%◌, ℤ, pos, int_lt, unsigned_abs, List, [], ◌++◌, drop, codes, decimal, if◌then◌else◌}
use Rattle.s2_mode.specs.Mode.{Mode, ideal_of}

-- a number of hundredths, with two digits after the point
abbrev pub hundredths_text : ℤ → List ℕ
hundredths_text n =
    (if int_lt n (pos 0) then codes "-" else []) ++ (decimal (unsigned_abs n / 100) ++ (codes "." ++ drop 1 (decimal (100 + unsigned_abs n % 100))))

-- the Es/N0 of the table, which is for normal frames; for short ones `+0.2..0.3` follows
abbrev pub ideal_text : Mode → List ℕ
ideal_text m = hundredths_text (ideal_of m) ++ (if m.short then codes "+0.2..0.3" else [])
