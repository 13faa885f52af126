-- What `scan` prints (own).
use Rattle.std.specs.Prelude.{ℕ, ◌+◌, ◌-◌, ◌*◌, ◌/◌, ◌%◌, ◌==◌, ◌&&◌, ◌||◌, Bool, true, not, nat_le, nat_lt, max, min, List, [], ◌∷◌, ◌++◌, get_or, drop, Option, None, Some, codes, decimal, if◌then◌else◌}
use Rattle.s2_io.specs.declared.exit.Exit.{Exit}
use Rattle.s2_io.specs.declared.exit.Exit.TheVariants as exits
use Rattle.s2_scan.specs.Forms.{is_little, orientation_of}
use Rattle.s2_scan.specs.Strength.{nothing_text}
use Rattle.s2_scan.specs.declared.candidate.Candidate.{Candidate}

-- the names of MODCOD 0 to 28
abbrev pub names : List (List ℕ)
names =
    codes "dummy"
    ∷ codes "qpsk1/4" ∷ codes "qpsk1/3" ∷ codes "qpsk2/5" ∷ codes "qpsk1/2" ∷ codes "qpsk3/5" ∷ codes "qpsk2/3"
    ∷ codes "qpsk3/4" ∷ codes "qpsk4/5" ∷ codes "qpsk5/6" ∷ codes "qpsk8/9" ∷ codes "qpsk9/10"
    ∷ codes "8psk3/5" ∷ codes "8psk2/3" ∷ codes "8psk3/4" ∷ codes "8psk5/6" ∷ codes "8psk8/9" ∷ codes "8psk9/10"
    ∷ codes "16apsk2/3" ∷ codes "16apsk3/4" ∷ codes "16apsk4/5" ∷ codes "16apsk5/6" ∷ codes "16apsk8/9" ∷ codes "16apsk9/10"
    ∷ codes "32apsk3/4" ∷ codes "32apsk4/5" ∷ codes "32apsk5/6" ∷ codes "32apsk8/9" ∷ codes "32apsk9/10"
    ∷ []

-- the name of a header's MODCOD
unfoldable pub name_at : ℕ → List ℕ
name_at header = get_or names (header / 4) []

-- whether a header is of short frames
abbrev pub is_short : ℕ → Bool
is_short header = header / 2 % 2 == 1

-- whether a header is of frames with pilots
abbrev pub has_pilots : ℕ → Bool
has_pilots header = header % 2 == 1

-- whether undoing a form begins with conjugation
abbrev pub is_conjugate : ℕ → Bool
is_conjugate form = not (nat_lt (orientation_of form) 4)

-- the quarter turns that undo a form
abbrev pub turns_back : ℕ → ℕ
turns_back form = form % 4

-- the quarter turns of the recording, before it was conjugated
abbrev pub turns_of : ℕ → ℕ
turns_of form = (4 - form % 4) % 4

-- a header in words
unfoldable pub header_words : ℕ → List ℕ
header_words header =
    name_at header ++ ((if is_short header then codes " short" else codes " normal") ++ (if has_pilots header then codes " pilots" else codes " no-pilots"))

-- the positions in words
unfoldable pub place_words : Candidate → List ℕ
place_words s =
    (codes " seen " ++ decimal s.seen) ++ ((codes " first " ++ decimal s.first) ++ (codes " every " ++ decimal s.every))

-- the form in words
unfoldable pub form_words : ℕ → List ℕ
form_words form =
    (codes " turn " ++ decimal (turns_of form))
    ++ ((if is_conjugate form then codes " conjugate yes" else codes " conjugate no") ++ (if is_little form then codes " bytes little" else codes " bytes big"))

-- the line of a candidate
unfoldable pub line_of : Candidate → List ℕ
line_of s = header_words s.header ++ (place_words s ++ (form_words s.form ++ ((codes " amplitude " ++ decimal s.amplitude) ++ codes "\n")))

-- the lines of candidates
abbrev pub lines_of : List Candidate → List ℕ
lines_of [] = []
lines_of (s ∷ ss) = line_of s ++ lines_of ss

-- ---- what to do

-- whether a number is between two others, or one of them
abbrev pub is_between : ℕ → ℕ → ℕ → Bool
is_between least most n = nat_le least n && nat_le n most

-- whether this program receives the frames of a header: MODCOD 1 to 17; 9/10, which is 11 and 17, has no short frames
abbrev pub is_received : ℕ → Bool
is_received header =
    nat_lt 0 (header / 4) && (nat_lt (header / 4) 18 && not (is_short header && ((header / 4 == 11) || (header / 4 == 17))))

-- an amplitude, at least 1 and at most 46341
abbrev pub within : ℕ → ℕ
within amplitude = max (min amplitude 46341) 1

-- 990 divided by an amplitude, in ten-thousandths, rounded
abbrev pub gain_of : ℕ → ℕ
gain_of amplitude = (19800000 + within amplitude) / (2 * within amplitude)

-- whether symbols of this amplitude need no gain: 990 and at most 1.5 dB off
abbrev pub is_usual : ℕ → Bool
is_usual amplitude = nat_le 833 amplitude && nat_le amplitude 1177

-- the gain in digits, four after the point
unfoldable pub gain_words : ℕ → List ℕ
gain_words gain = (codes " --gain " ++ decimal (gain / 10000)) ++ (codes "." ++ drop 1 (decimal (10000 + gain % 10000)))

-- the quarter turns that undo a form, if there are any
unfoldable pub turn_words : ℕ → List ℕ
turn_words turns = if turns == 0 then [] else codes " --turn " ++ decimal turns

-- the command that undoes a form
unfoldable pub convert_words : ℕ → List ℕ
convert_words form =
    (if is_little form then codes "tools/convert ci16_le ci16_be" else codes "tools/convert ci16_be ci16_be")
    ++ ((if is_conjugate form then codes " --conjugate" else []) ++ turn_words (turns_back form))

-- whether a byte of a name needs no quotes in a shell: a letter, a digit, or one of % + , - . / : = @ _
abbrev pub is_plain : ℕ → Bool
is_plain byte = is_between 43 58 byte || (is_between 64 90 byte || (is_between 97 122 byte || ((byte == 37) || ((byte == 61) || (byte == 95)))))

-- whether this is true of all bytes
abbrev pub are_plain : List ℕ → Bool
are_plain [] = true
are_plain (byte ∷ bytes) = is_plain byte && are_plain bytes

-- a byte between single quotes; a single quote is outside of them, after a backslash
abbrev pub quoted_byte : ℕ → List ℕ
quoted_byte byte = if byte == 39 then codes "'\\''" else byte ∷ []

-- bytes between single quotes
abbrev pub quoted_bytes : List ℕ → List ℕ
quoted_bytes [] = []
quoted_bytes (byte ∷ bytes) = quoted_byte byte ++ quoted_bytes bytes

-- a name as a word of a shell: between single quotes, if it needs them
unfoldable pub shell_word : List ℕ → List ℕ
shell_word name = if are_plain name then name else codes "'" ++ (quoted_bytes name ++ codes "'")

-- the command that undoes a candidate's form, as far as the pipe
unfoldable pub source_words : List ℕ → Candidate → List ℕ
source_words name s = convert_words s.form ++ (gain_words (gain_of s.amplitude) ++ (codes " " ++ (shell_word name ++ codes " | ")))

-- the option for a scrambling number, if it is found and not 0
unfoldable pub number_words : Option ℕ → List ℕ
number_words None = []
number_words (Some number) = if number == 0 then [] else codes " --number " ++ decimal number

-- the mode of a header in options
unfoldable pub mode_words : ℕ → List ℕ
mode_words header = name_at header ++ ((if is_short header then codes " --short" else []) ++ (if has_pilots header then codes " --pilots" else []))

-- the command that receives the frames of a header under a scrambling number
unfoldable pub demod_words : Option ℕ → ℕ → List ℕ
demod_words number header = codes "./s2 demod --modcod " ++ (mode_words header ++ (number_words number ++ codes " --tuned rows "))

-- the line that says how a candidate's frames are received after their form is undone
unfoldable pub converted_line : List ℕ → Option ℕ → Candidate → List ℕ
converted_line name number s = source_words name s ++ (demod_words number s.header ++ codes "- received.ts\n")

-- the line that says how the frames of a header are received as they are
unfoldable pub direct_line : List ℕ → Option ℕ → ℕ → List ℕ
direct_line name number header = demod_words number header ++ (shell_word name ++ codes " received.ts\n")

-- The line that says how a candidate's frames are received: as they are, if they are in our byte order, neither conjugated
-- nor rotated, and their amplitude needs no gain
abbrev pub command_line : List ℕ → Option ℕ → Candidate → List ℕ
command_line name number s = if (s.form == 0) && is_usual s.amplitude then direct_line name number s.header else converted_line name number s

-- the last line: how the likeliest frames that this program receives are received from the file of this name
abbrev pub advice_of : List ℕ → Option ℕ → List Candidate → List ℕ
advice_of name number [] = codes "s2 demod receives none of these\n"
advice_of name number (s ∷ ss) = if is_received s.header then command_line name number s else advice_of name number ss

-- the line of the scrambling number
unfoldable pub number_line : Option ℕ → List ℕ
number_line None = codes "number not looked for: no pilots\n"
number_line (Some number) = (codes "number " ++ decimal number) ++ codes "\n"

-- all that is printed of candidates in the file of this name and these first bytes
abbrev pub scan_text : List ℕ → List ℕ → Option ℕ → List Candidate → List ℕ
scan_text name front number [] = nothing_text front
scan_text name front number (s ∷ ss) = lines_of (s ∷ ss) ++ (number_line number ++ advice_of name number (s ∷ ss))

-- exit 0 if there is a candidate, else 2
abbrev pub scan_exit : List Candidate → Exit
scan_exit [] = exits.No
scan_exit (s ∷ ss) = exits.Fine
