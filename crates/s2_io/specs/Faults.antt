-- The line of a fault on the errors (own).
use Rattle.std.specs.Prelude.{ℕ, List, [], ◌++◌, codes, Option}
use Rattle.s2_mode.specs.FaultTexts.{with_number}
use Rattle.s2_io.specs.declared.fault.Fault.{Fault}
use Rattle.s2_io.specs.declared.fault.Fault.TheVariants as faults
use Rattle.s2_io.specs.declared.fault.Phrase.{Phrase}

-- what a fault says: its words and its file's name; for a fault of another crate, the subject and that fault's words
abbrev pub fault_text : Fault → List ℕ
fault_text (faults.Open name) = codes "cannot open " ++ name.now
fault_text (faults.UsedTwice name) = name.now ++ codes " is used twice"
fault_text faults.Read = codes "cannot read"
fault_text faults.Write = codes "cannot write"
fault_text faults.TooLong = codes "file too long"
fault_text faults.NoMemory = codes "no memory"
fault_text (faults.Rows text) = text
fault_text (faults.Refused text) = text

-- the line of a fault: `s2: `, its text, LF
abbrev pub fault_line : Fault → List ℕ
fault_line fault = codes "s2: " ++ fault_text fault ++ codes "\n"

-- a line in parts
abbrev pub phrase_text : Phrase → List ℕ
phrase_text phrase = phrase.about.now ++ with_number phrase.words.now phrase.number

-- its end
abbrev pub end_text : Option ℕ → List ℕ
end_text number = with_number [] number ++ codes "\n"
