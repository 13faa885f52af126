-- The texts of results (own).
use Rattle.std.specs.Prelude.{ℕ, ℤ, pos, negsuc, int_lt, unsigned_abs, List, [], ◌∷◌, ◌||◌, codes, get_or, if◌then◌else◌}

-- the texts of success and of the refusals, in the order of their numbers
abbrev pub result_texts : List (List ℕ)
result_texts =
    codes "ok"
    ∷ codes "out of memory"
    ∷ codes "the handle is empty or ended"
    ∷ codes "the handle is of another kind"
    ∷ codes "the handle to be filled is not empty"
    ∷ codes "the size in the struct is not that of the struct"
    ∷ codes "no such mode"
    ∷ codes "no such shape of a code"
    ∷ codes "the rows are no row file of the shape"
    ∷ codes "the code is not of the mode's shape"
    ∷ codes "the scrambling number is over 262141"
    ∷ codes "the roll-off is over 2"
    ∷ codes "a number of the tuning is out of its range"
    ∷ codes "an option has a value that it cannot have"
    ∷ codes "more was given than can be taken"
    ∷ codes "the buffer is too short"
    ∷ codes "a packet does not begin with 47 hexadecimal"
    ∷ codes "not a whole packet at the end"
    ∷ codes "the stream was closed"
    ∷ codes "the limit of packets is reached"
    ∷ codes "not n soft values from -511 to 511"
    ∷ codes "not a certificate file"
    ∷ codes "there is none here"
    ∷ []

-- the text of a number, 0 to -22
unfoldable pub result_text : ℤ → List ℕ
result_text number =
    if int_lt (pos 0) number || int_lt number (negsuc 21) then codes "unknown result" else get_or result_texts (unsigned_abs number) []
