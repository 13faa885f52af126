-- The words of a value file, byte by byte (own).
use Rattle.std.specs.Prelude.{◌≡◌, ◌≢◌, ℕ, ℤ, pos, neg_ℤ, ◌+◌, ◌-◌, ◌*◌, ◌<◌, ◌≤◌, min, ◌==◌, ◌||◌, Bool, true, false, All, ⊤, List, [], ◌∷◌, ◌++◌, map, length, take, drop, codes, vec_capacity, Option, Some, None, IfSome, Result, Ok, Err, if◌then◌else◌}
use Rattle.std.specs.Option.{option_map}
use Rattle.std.specs.Io.KnownBytes.{Consumes, IsAtEnd}
use Rattle.s2_rows.specs.FaultTexts.{value_fault_text}
use Rattle.s2_rows.specs.Numbers.{is_digit}
use Rattle.s2_rows.specs.Text.{is_space, is_line_feed}
use Rattle.s2_rows.specs.Values.{signed, in_range}
use Rattle.s2_rows.specs.declared.values.ValueFault.{ValueFault}
use Rattle.s2_rows.specs.declared.values.ValueFault.TheVariants as value_faults
use Rattle.s2_check.specs.Views.{IsSoft}
use Rattle.s2_io.specs.declared.fault.Fault.{Fault}
use Rattle.s2_io.specs.declared.fault.Fault.TheVariants as faults
use Rattle.s2_judging.specs.declared.words.Word.{Word}
use Rattle.s2_judging.specs.declared.words.Place.{Place}
use Rattle.s2_judging.specs.declared.words.Place.TheVariants as places
use Rattle.s2_judging.specs.declared.words.Position.{Position}
use Rattle.s2_judging.specs.declared.frames.Reading.{Reading}
use Rattle.s2_judging.specs.declared.frames.Frames.{Frames}
use Rattle.s2_judging.specs.Frames.{Reads, AreRead, frame_of, IsRefusedFrame, max_text}

-- ---- a word

-- the number so far with one more byte; a number over a million is read as a million
abbrev pub more_digits : Option ℕ → ℕ → Option ℕ
more_digits None b = None
more_digits (Some n) b = if is_digit b then Some (min 1000000 (n * 10 + (b - 48))) else None

-- a word with one more byte
abbrev pub then_byte : Word → ℕ → Word
then_byte word b =
    record { minus = word.minus; digits = min 2 (word.digits + 1); number = more_digits word.number b }

-- a word without digits
abbrev pub no_digits : Bool → Word
no_digits minus = record { minus = minus; digits = 0; number = Some 0 }

-- a word that begins with this byte
abbrev pub first_byte : ℕ → Word
first_byte b = if b == 45 then no_digits true else then_byte (no_digits false) b

-- the number of its digits, if it has any
abbrev pub number_in : Word → Option ℕ
number_in word = if word.digits == 0 then None else word.number

-- the decided bit of a number of one digit, as a soft value
abbrev pub bit_at : ℕ → Option ℕ → Result ℤ ValueFault
bit_at line None = Err (value_faults.OutOfRange line)
bit_at line (Some n) = if n == 0 then Ok (pos 1) else if n == 1 then Ok (neg_ℤ (pos 1)) else Err (value_faults.OutOfRange line)

-- what a whole word says
abbrev pub word_said : (hard : Bool) → ℕ → Word → Result ℤ ValueFault
word_said true line word = if word.minus then Err (value_faults.OutOfRange line) else if word.digits == 1 then bit_at line word.number else Err (value_faults.OutOfRange line)
word_said false line word = in_range line (option_map (signed word.minus) (number_in word))

-- ---- a place in a text

-- after a separator
abbrev pub after_space : Place → Place
after_space places.Start = places.Start
after_space places.Comment = places.Comment
after_space places.Between = places.Between
after_space (places.Inside word) = places.Between

-- after a byte of a word or of a comment
abbrev pub after_letter : Place → ℕ → Place
after_letter places.Start b = if b == 35 then places.Comment else places.Inside (first_byte b)
after_letter places.Comment b = places.Comment
after_letter places.Between b = places.Inside (first_byte b)
after_letter (places.Inside word) b = places.Inside (then_byte word b)

-- after any byte
abbrev pub after_byte : Position → ℕ → Position
after_byte p b =
    if is_line_feed b then record { line = p.line + 1; place = places.Start } else if is_space b then record { line = p.line; place = after_space p.place } else record { line = p.line; place = after_letter p.place b }

-- the word at a place
abbrev pub word_in : Place → Option Word
word_in places.Start = None
word_in places.Comment = None
word_in places.Between = None
word_in (places.Inside word) = Some word

-- the word that ends at this byte
abbrev pub word_ended : Place → ℕ → Option Word
word_ended place b = if is_line_feed b || is_space b then word_in place else None

-- what a word says, if there is one
abbrev pub said_by : (hard : Bool) → ℕ → Option Word → List (Result ℤ ValueFault)
said_by hard line None = []
said_by hard line (Some word) = word_said hard line word ∷ []

-- what the words say that end in these bytes, the last of a text
unfoldable pub words_from : (hard : Bool) → Position → List ℕ → List (Result ℤ ValueFault)
words_from hard p [] = said_by hard p.line (word_in p.place)
words_from hard p (b ∷ bytes) = said_by hard p.line (word_ended p.place b) ++ words_from hard (after_byte p b) bytes

-- ---- values of words

-- these words begin with the words of these values
abbrev pub Begin : List (Result ℤ ValueFault) → List ℤ → List (Result ℤ ValueFault) → Type 0
Begin words values rest = words ≡ map Ok values ++ rest

-- a word is refused before there are n values
abbrev pub Refuses : ℕ → List (Result ℤ ValueFault) → ValueFault → Type 0
Refuses n words fault = (words ≢ []) × (frame_of n words ≡ Err fault)

-- what a word said was added to the values, or is the fault
abbrev pub AddsWord : List (Result ℤ ValueFault) → List ℤ → List ℤ → Result (Unit {0}) ValueFault → Type 0
AddsWord said old new (Ok done) = (words rest : List (Result ℤ ValueFault)) → Begin words old (said ++ rest) → Begin words new rest
AddsWord said old new (Err fault) = said ≡ Err fault ∷ []

-- Values of the words that end in these bytes were added, up to a position among them, however the text goes on. Or a
-- word is refused
abbrev pub AddsWords : (hard : Bool) → ℕ → Position → List ℕ → List ℤ → List ℤ → Result (ℕ × Position) ValueFault → Type 0
AddsWords hard n before bytes old new (Ok (used, after)) =
    (words : List (Result ℤ ValueFault)) (more : List ℕ) → Begin words old (words_from hard before (bytes ++ more)) → Begin words new (words_from hard after (drop used bytes ++ more))
AddsWords hard n before bytes old new (Err fault) =
    (words : List (Result ℤ ValueFault)) (more : List ℕ) → Begin words old (words_from hard before (bytes ++ more)) → Refuses n words fault

-- ---- a buffer

-- the bytes of a buffer that are not read yet
abbrev pub unread : Reading → List ℕ → List ℕ
unread reading buffer = drop reading.at (take reading.end buffer)

-- what the words say that are not read yet, in the buffer and beyond it
abbrev pub pending : (hard : Bool) → Reading → List ℕ → Option (List ℕ) → Option (List (Result ℤ ValueFault))
pending hard reading buffer remaining = option_map (λ bytes. words_from hard reading.position (unread reading buffer ++ bytes)) remaining

-- the bytes of the buffer
abbrev pub chunk_bytes : ℕ
chunk_bytes = 4096

-- a reading of a buffer; the lines can be counted
pub record IsReading (reading : Reading) (buffer : List ℕ) : Type 0 where
  pub order : reading.at ≤ reading.end
  pub room : reading.end ≤ length buffer
  pub long : length buffer ≡ chunk_bytes
  pub lines : reading.position.line + (reading.end + reading.left) ≤ 1 + (max_text + reading.at)

-- the start of a value file
abbrev pub at_start : Reading
at_start = record { position = record { line = 1; place = places.Start }; at = 0; end = 0; left = max_text }

-- bytes were read, and so fewer may be
abbrev pub Spends : Option (List ℕ) → ℕ → Option (List ℕ) → ℕ → Type 0
Spends None left after left_after = ⊤
Spends (Some bytes) left None left_after = ⊥
Spends (Some bytes) left (Some rest) left_after = length bytes + left_after ≡ length rest + left

-- more bytes were read into the buffer, or there are none
abbrev pub ReadsMore : Reading → List ℕ → List ℕ → Option (List ℕ) → Option (List ℕ) → Result (Option Reading) Fault → Type 0
ReadsMore reading old new remaining after (Ok (Some next)) =
    ((hard : Bool) → Reads (pending hard reading old remaining) (pending hard next new after) []) × IsReading next new × (next.left < reading.left) × Spends remaining reading.left after next.left
ReadsMore reading old new remaining after (Ok None) = Consumes remaining after [] × IsAtEnd after
ReadsMore reading old new remaining after (Err faults.Read) = ⊤
ReadsMore reading old new remaining after (Err faults.TooLong) = IfSome remaining (λ bytes. reading.left < length bytes)
ReadsMore reading old new remaining after (Err fault) = ⊥

-- values of words in the buffer were added, or a word is refused
abbrev pub AddsBuffered : (hard : Bool) → ℕ → Reading → List ℕ → List ℤ → List ℤ → Result Reading Fault → Type 0
AddsBuffered hard n reading buffer old new (Ok next) =
    (words : Option (List (Result ℤ ValueFault))) (remaining : Option (List ℕ)) → Reads words (pending hard reading buffer remaining) old → Reads words (pending hard next buffer remaining) new
AddsBuffered hard n reading buffer old new (Err (faults.Refused text)) =
    (words : Option (List (Result ℤ ValueFault))) (remaining : Option (List ℕ)) → Reads words (pending hard reading buffer remaining) old → IsRefusedFrame n words (faults.Refused text)
AddsBuffered hard n reading buffer old new (Err fault) = ⊥

-- the number of values at the end of a file: those of a frame, or none
abbrev pub whole_of : ℕ → ℕ → Result Bool Fault
whole_of n count = if count == n then Ok true else if count == 0 then Ok false else Err (faults.Refused (codes "values: " ++ value_fault_text value_faults.TooFew))

-- the last word of a file was added, and the values are those of a frame, or there are none; or the frame is refused
abbrev pub EndsFrame : (hard : Bool) → ℕ → Position → List ℤ → List ℤ → Result Bool Fault → Type 0
EndsFrame hard n position old new (Ok true) =
    (words : List (Result ℤ ValueFault)) → Begin words old (words_from hard position []) → (words ≡ map Ok new) × (length new ≡ n)
EndsFrame hard n position old new (Ok false) =
    (words : List (Result ℤ ValueFault)) → Begin words old (words_from hard position []) → words ≡ []
EndsFrame hard n position old new (Err (faults.Refused text)) =
    (words : List (Result ℤ ValueFault)) → Begin words old (words_from hard position []) → IsRefusedFrame n (Some words) (faults.Refused text)
EndsFrame hard n position old new (Err fault) = ⊥

-- The next frame was read; there is none only if no word is left. Or it is refused, the file has too many bytes, or a
-- read failed
abbrev pub TakesFrame : ℕ → Option (List (Result ℤ ValueFault)) → Option (List (Result ℤ ValueFault)) → List ℤ → Option (List ℕ) → ℕ → Result Bool Fault → Type 0
TakesFrame n before after values remaining left (Ok false) = AreRead before
TakesFrame n before after values remaining left (Ok true) = Reads before after values
TakesFrame n before after values remaining left (Err faults.Read) = ⊤
TakesFrame n before after values remaining left (Err faults.Write) = ⊥
TakesFrame n before after values remaining left (Err faults.NoMemory) = ⊥
TakesFrame n before after values remaining left (Err faults.TooLong) = IfSome remaining (λ bytes. left < length bytes)
TakesFrame n before after values remaining left (Err fault) = IsRefusedFrame n before fault

-- ---- memory for a frame

-- what the words say that are not read yet
abbrev pub pending_in : Frames → Option (List ℕ) → Option (List (Result ℤ ValueFault))
pending_in f remaining = pending f.hard f.reading f.buffer.items remaining

-- a reading of its buffer, and room for the values of a frame
pub record IsFrames (f : Frames) : Type 0 where
  pub reading : IsReading f.reading f.buffer.items
  pub room : f.count ≤ vec_capacity f.values
