-- Value files with any number of frames, one after another (own).
use Rattle.std.specs.Prelude.{◌≡◌, ◌≢◌, ℕ, ℤ, pos, ◌-◌, ◌+◌, ◌<◌, ◌==◌, ◌||◌, Bool, true, false, All, ⊤, List, [], ◌∷◌, ◌++◌, map, length, Option, Some, None, IfSome, Result, Ok, Err, if◌then◌else◌}
use Rattle.std.specs.Option.{option_map}
use Rattle.s2_rows.specs.Readings.{ok_cons}
use Rattle.s2_rows.specs.Text.{lines_of}
use Rattle.s2_rows.specs.Values.{tokens_from, value_of}
use Rattle.s2_rows.specs.declared.values.ValueFault.{ValueFault}
use Rattle.s2_rows.specs.declared.values.ValueFault.TheVariants as value_faults
use Rattle.s2_check.specs.Views.{IsSoft}
use Rattle.s2_io.specs.declared.fault.Fault.{Fault}
use Rattle.s2_io.specs.declared.fault.Fault.TheVariants as faults
use Rattle.s2_judging.specs.Hard.{bit_of}
use Rattle.s2_judging.specs.Inputs.{values_said}

-- ---- words

-- what a word of a value file says: a decided bit or a soft value, or the word's fault
abbrev pub word_by : (hard : Bool) → ℕ × List ℕ → Result ℤ ValueFault
word_by true word = bit_of word.0 word.1
word_by false word = value_of word.0 word.1

-- what the words of a text say, in order
abbrev pub words_by : (hard : Bool) → List ℕ → List (Result ℤ ValueFault)
words_by hard text = map (word_by hard) (tokens_from 1 (lines_of text))

-- what the words of a file say, if its bytes are known
abbrev pub words_in : (hard : Bool) → Option (List ℕ) → Option (List (Result ℤ ValueFault))
words_in hard known = option_map (words_by hard) known

-- words were read, and they said these values
abbrev pub Reads : Option (List (Result ℤ ValueFault)) → Option (List (Result ℤ ValueFault)) → List ℤ → Type 0
Reads None after values = ⊤
Reads (Some words) None values = ⊥
Reads (Some words) (Some rest) values = words ≡ map Ok values ++ rest

-- no word is left
abbrev pub AreRead : Option (List (Result ℤ ValueFault)) → Type 0
AreRead words = IfSome words (λ ws. ws ≡ [])

-- ---- frames

-- The first n values of these words. The fault is that of the first word that is refused. If the words end before, they
-- are too few
unfoldable pub frame_of : ℕ → List (Result ℤ ValueFault) → Result (List ℤ) ValueFault
frame_of left [] = if left == 0 then Ok [] else Err value_faults.TooFew
frame_of left (word ∷ words) = if left == 0 then Ok [] else ok_cons word (frame_of (left - 1) words)

-- the maximum length in bytes of a value file that is read frame by frame, 2^48
abbrev pub max_text : ℕ
max_text = 281474976710656

-- The next frame is not read: a word of it is refused, or the file ends in it
abbrev pub IsRefusedFrame : ℕ → Option (List (Result ℤ ValueFault)) → Fault → Type 0
IsRefusedFrame n words fault = IfSome words (λ ws. (ws ≢ []) × (values_said (frame_of n ws) ≡ Err fault))
