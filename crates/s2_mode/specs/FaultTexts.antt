-- The texts of faults (own).
use Rattle.std.specs.Prelude.{ℕ, List, ◌++◌, decimal, Option, Some, None}
use Rattle.s2_mode.specs.declared.fault_text.FaultText.{FaultText}

-- a number after words, if there is one
abbrev pub with_number : List ℕ → Option ℕ → List ℕ
with_number words None = words
with_number words (Some number) = words ++ decimal number

-- the bytes of a text
abbrev pub said : FaultText → List ℕ
said text = with_number text.words.now text.number
