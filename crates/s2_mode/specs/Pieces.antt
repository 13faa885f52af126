-- What a call that failed before its end has read or written (own).
use Rattle.std.specs.Prelude.{ℕ, ◌<◌, List, length, take, Option}
use Rattle.std.specs.Io.KnownBytes.{Consumes, Appends}

-- a reader gave a part of these bytes, from the first one on, and not all
abbrev pub ConsumesPart : List ℕ → Option (List ℕ) → Option (List ℕ) → Type 0
ConsumesPart bytes old new = (k : ℕ) × (k < length bytes) × Consumes old new (take k bytes)

-- a writer took a part of these bytes, from the first one on, and not all
abbrev pub AppendsPart : List ℕ → Option (List ℕ) → Option (List ℕ) → Type 0
AppendsPart bytes old new = (k : ℕ) × (k < length bytes) × Appends old new (take k bytes)
