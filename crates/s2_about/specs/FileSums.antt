-- The SHA-256 of the bytes that a file gave or took (own).
use Rattle.std.specs.Prelude.{ℕ, List, [], take, Result, Ok, Err}
use Rattle.sha2.specs.Hashers.{Holds256}
use Rattle.s2_about.specs.declared.file_sum.FileSum.{FileSum}

-- these bytes passed, and no others
abbrev pub HoldsBytes : FileSum → List ℕ → Type 0
HoldsBytes sum bytes = Holds256 sum.hasher bytes

-- the bytes that a call on a file moved: the first ones of its buffer, as many as it returned
abbrev pub moved : {E : Type 0} → Result ℕ E → List ℕ → List ℕ
moved (Ok n) buf = take n buf
moved (Err fault) buf = []
