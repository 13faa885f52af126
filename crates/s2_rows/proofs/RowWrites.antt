-- A text that is written piece by piece.
use Rattle.std.proofs.Common.{◌≡◌, ℕ, ◌+◌, ◌<◌, ◌≤◌, List, [], ◌++◌, drop, length, get_or, Option, sym, ap, ◌∙◌, subst, append_assoc, append-nil, decimal, drop_of_length-le}
use Rattle.std.specs.Io.KnownBytes.{Appends}
use Rattle.std.proofs.KnownBytes.{Appends-trans}
use Rattle.std.proofs.lemmas.List.{at_drop_more}
use Rattle.s2_rows.specs.RowTexts.{after_address, row_text, rows_text}

-- what is written so far, and the text that is left
abbrev pub Written : (old new : Option (List ℕ)) (all rest : List ℕ) → Type 0
Written old new all rest = (front : List ℕ) × Appends old new front × (all ≡ front ++ rest)

pub writes_on : (old mid new : Option (List ℕ)) (all rest piece more : List ℕ) → Written old mid all rest → Appends mid new piece → rest ≡ piece ++ more → Written old new all more
writes_on old mid new all rest piece more (front, before, whole) now e =
    (front ++ piece, Appends-trans old mid new front piece before now, whole ∙ ap (λ r. front ++ r) e ∙ sym (append_assoc front piece more))

pub all_written : (old new : Option (List ℕ)) (all rest : List ℕ) → Written old new all rest → rest ≡ [] → Appends old new all
all_written old new all rest (front, before, whole) e = subst (Appends old new) (sym (whole ∙ ap (λ r. front ++ r) e ∙ append-nil front)) before

pub address_text : (row : List ℕ) (at : ℕ) → at < length row → row_text (drop at row) ≡ decimal (get_or row at 0) ++ (after_address (drop (at + 1) row) ++ row_text (drop (at + 1) row))
unfolding row_text
address_text row at h = at_drop_more row_text row at 0 h

pub row_written : (row : List ℕ) (at : ℕ) → length row ≤ at → row_text (drop at row) ≡ []
unfolding row_text
row_written row at h = ap row_text (drop_of_length-le row h)

pub line_text : (rows : List (List ℕ)) (g : ℕ) → g < length rows → rows_text (drop g rows) ≡ row_text (get_or rows g []) ++ rows_text (drop (g + 1) rows)
line_text rows g h = at_drop_more rows_text rows g [] h

pub rows_written : (rows : List (List ℕ)) (g : ℕ) → length rows ≤ g → rows_text (drop g rows) ≡ []
rows_written rows g h = ap rows_text (drop_of_length-le rows h)
