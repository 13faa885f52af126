-- Lines of a report that were written, read back.
use Rattle.std.proofs.Common.{◌≡◌, ℕ, zero, suc, ◌+◌, ◌/◌, ◌%◌, ◌^◌, ◌==◌, ◌<◌, ◌≤◌, ◌&&◌, ℤ, pos, negsuc, Bool, true, false, not, SFits, w64, List, [], ◌∷◌, ◌++◌, Some, length, refl, ap, ◌∙◌, append_assoc, length-append, arith, decimal, codes}
use Rattle.std.specs.Bool.{if◌then◌else◌}
use Rattle.std.specs.Fmt.{digit_glyph, digits, digits_onto, signed_decimal}
use Rattle.std.specs.List.{AllByRecursion}
use Rattle.std.proofs.lemmas.Bool.{cond-true, cond-false, le-leb, lt-ltb, ne_eqb, and_parts}
use Rattle.std.proofs.lemmas.Int.{ints}
use Rattle.std.proofs.lemmas.List.Elements.{All-from_recursion, recursion_from_All}
use Rattle.s2_mode.specs.Limits.{max_symbols}
use Rattle.s2_rows.specs.Text.{in_front, is_line_feed, pieces_of}
use Rattle.s2_rows.proofs.Decimals.{Digits, Lacks, decimal_says, natural_of_decimal, no_line_feed}
use Rattle.s2_check.specs.Verdicts.{verdict_word}
use Rattle.s2_check.specs.declared.verdict.Verdict.{Verdict}
use Rattle.s2_check.specs.declared.verdict.Verdict.TheVariants.{Sole, MostLikely, Parity, Broken}
use Rattle.s2_report.specs.Entries.{IsLine, below_limit, IsReadAs, IsSmall, entry_of, entry_with, frame_of_report, frame_with, is_blank, number_in, verdict_in, words_of}
use Rattle.s2_report.specs.Limits.{line_bytes}
use Rattle.s2_report.specs.ReportLines.{correlation_words, cut_bytes_line, cut_line, decoding_words, delivered_words, end_line, figures_words, frame_line, frames_words, outcome_words, packets_words, parts_words, removed_words, sums_words, tally_words, turn_words}
use Rattle.s2_report.specs.declared.entry.Entry.{Entry}
use Rattle.s2_report.specs.declared.entry.Entry.TheVariants as entries
use Rattle.s2_report.specs.declared.figures.Figures.{Figures}
use Rattle.s2_equalize.specs.declared.equalizer.Removed.{Removed}
use Rattle.s2_report.specs.declared.figures.Sums.{Sums}
use Rattle.s2_report.specs.declared.report.Report.{Report}
use Rattle.s2_report.specs.declared.totals.Totals.{Totals}

-- ---- bytes that pass no test

abbrev pub none : (ℕ → Bool) → List ℕ → Bool
none p [] = true
none p (b ∷ bs) = not (p b) && none p bs

not_false : (x : Bool) → not x ≡ true → x ≡ false
not_false true e = cc
not_false false e = refl

-- words that are known
pub known : (p : ℕ → Bool) (bs : List ℕ) → none p bs ≡ true → Lacks p bs
known p [] e = tt
known p (b ∷ bs) e =
    let (here, later) = and_parts (not (p b)) (none p bs) e in
    (not_false (p b) here, known p bs later)

pub lacks_append : (p : ℕ → Bool) (xs ys : List ℕ) → Lacks p xs → Lacks p ys → Lacks p (xs ++ ys)
lacks_append p [] ys a b = b
lacks_append p (x ∷ xs) ys a b = (a.0, lacks_append p xs ys a.1 b)

by_recursion : (p : ℕ → Bool) (bs : List ℕ) → Lacks p bs → AllByRecursion (λ b. p b ≡ false) bs
by_recursion p [] h = tt
by_recursion p (b ∷ bs) h = (h.0, by_recursion p bs h.1)

is_line : (bs : List ℕ) → Lacks is_line_feed bs → IsLine bs
is_line bs h = All-from_recursion (λ b. is_line_feed b ≡ false) bs (by_recursion is_line_feed bs h)

no_blank : (ds : List ℕ) → Digits ds → Lacks is_blank ds
no_blank [] all = tt
no_blank (b ∷ ds) all = (ne_eqb b 32 (λ e. omega (arith, all.0)), no_blank ds all.2)

from_recursion : (p : ℕ → Bool) (bs : List ℕ) → AllByRecursion (λ b. p b ≡ false) bs → Lacks p bs
from_recursion p [] h = tt
from_recursion p (b ∷ bs) h = (h.0, from_recursion p bs h.1)

lacks_of : (bs : List ℕ) → IsLine bs → Lacks is_line_feed bs
lacks_of bs h = from_recursion is_line_feed bs (recursion_from_All (λ b. is_line_feed b ≡ false) bs h)

-- ---- parts of a line

pub known_line : (bs : List ℕ) → none is_line_feed bs ≡ true → IsLine bs
known_line bs e = is_line bs (known is_line_feed bs e)

pub append_line : (xs ys : List ℕ) → IsLine xs → IsLine ys → IsLine (xs ++ ys)
append_line xs ys a b = is_line (xs ++ ys) (lacks_append is_line_feed xs ys (lacks_of xs a) (lacks_of ys b))

-- with one more number after words
pub more_line : (xs w n : List ℕ) → IsLine xs → none is_line_feed w ≡ true → IsLine n → IsLine (xs ++ w ++ n)
more_line xs w n a e b = append_line (xs ++ w) n (append_line xs w a (known_line w e)) b

in_line : (n : ℕ) → n < 2 ^ 64 → Lacks is_line_feed (decimal n)
in_line n small = no_line_feed (decimal n) (decimal_says n small).digits

pub number_line : (n : ℕ) → n < 2 ^ 64 → IsLine (decimal n)
number_line n small = is_line (decimal n) (in_line n small)

pub signed_line : (z : ℤ) → SFits w64 z → IsLine (signed_decimal z)
signed_line (pos n) fits = number_line n (omega (arith, ints, fits.sfits))
signed_line (negsuc n) fits = is_line (45 ∷ decimal (suc n)) (refl, in_line (suc n) (omega (arith, ints, fits.sfits)))

-- ---- a number of any size is a word

of_either : (P : List ℕ → Type 0) (b : Bool) (xs ys : List ℕ) → P xs → P ys → P (if b then xs else ys)
of_either P true xs ys p q = p
of_either P false xs ys p q = q

glyph_is : (d : ℕ) → d < 10 → digit_glyph false d ≡ 48 + d
glyph_is d small = cond-true _ _ _ (lt-ltb d 10 small)

glyph_before : (n : ℕ) (ds : List ℕ) → Digits ds → Digits (digit_glyph false (n % 10) ∷ ds)
glyph_before n ds all =
    let is = glyph_is (n % 10) (omega arith) in
    (omega (arith, is), omega (arith, is), all)

digits_before : (k n : ℕ) (ds : List ℕ) → Digits ds → Digits (digits_onto k 10 false n ds)
digits_before zero n ds all = all
digits_before (suc k) n ds all =
    let more = glyph_before n ds all in
    of_either Digits (n / 10 == 0) _ _ more (digits_before k (n / 10) _ more)

number_is_word : (n : ℕ) → Lacks is_blank (decimal n)
unfolding digits
number_is_word n = no_blank (decimal n) (digits_before 64 n [] tt)

-- ---- words

-- a word and a blank
word : (w text : List ℕ) → Lacks is_blank w → words_of (w ++ 32 ∷ text) ≡ w ∷ words_of text
unfolding pieces_of
word [] text h = refl
word (b ∷ w) text h = cond-false _ _ _ h.0 ∙ ap (in_front b) (word w text h.1)

-- a line that is no longer than the longest
pub reads : (text : List ℕ) (entry : Entry) → IsLine text → length (text ++ 10 ∷ []) ≤ 640 → entry_of (words_of text) ≡ Some entry → IsReadAs (text ++ 10 ∷ []) entry
reads text entry whole short says = record {
  text = text;
  is = refl;
  whole = whole;
  says = cond-true _ _ _ (le-leb (length text) line_bytes (omega (arith, short, length-append text (10 ∷ [])))) ∙ says;
}

-- ---- the line of a frame

below : (n : ℕ) → n < max_symbols → n < 2 ^ 64
below n small = omega (arith, small)

number_back : (n : ℕ) → n < max_symbols → number_in (decimal n) ≡ Some n
number_back n small = ap below_limit (natural_of_decimal n (below n small)) ∙ cond-true _ _ _ (lt-ltb n max_symbols small)

pub verdict_back : (v : Verdict) → verdict_in (verdict_word v) ≡ Some v
verdict_back Sole = refl
verdict_back MostLikely = refl
verdict_back Parity = refl
verdict_back Broken = refl

verdict_is_word : (v : Verdict) → Lacks is_blank (verdict_word v)
verdict_is_word Sole = known is_blank (codes "sole") refl
verdict_is_word MostLikely = known is_blank (codes "most-likely") refl
verdict_is_word Parity = known is_blank (codes "parity") refl
verdict_is_word Broken = known is_blank (codes "broken") refl

pub verdict_line : (v : Verdict) → IsLine (verdict_word v)
verdict_line Sole = known_line (codes "sole") refl
verdict_line MostLikely = known_line (codes "most-likely") refl
verdict_line Parity = known_line (codes "parity") refl
verdict_line Broken = known_line (codes "broken") refl

-- the words of a frame's line, and what follows its verdict
abbrev pub words : Report → List ℕ → List ℕ
words r rest = codes "frame " ++ (decimal r.number ++ (codes " at " ++ (decimal r.at ++ (codes " " ++ (verdict_word r.verdict ++ (codes " " ++ rest))))))

module _ (r : Report) where
  pub split : (rest : List ℕ) → words_of (words r rest) ≡ codes "frame" ∷ decimal r.number ∷ codes "at" ∷ decimal r.at ∷ verdict_word r.verdict ∷ words_of rest
  split rest =
      word (codes "frame") _ (known is_blank (codes "frame") refl)
      ∙ ap (λ l. codes "frame" ∷ l) (word (decimal r.number) _ (number_is_word r.number)
      ∙ ap (λ l. decimal r.number ∷ l) (word (codes "at") _ (known is_blank (codes "at") refl)
      ∙ ap (λ l. codes "at" ∷ l) (word (decimal r.at) _ (number_is_word r.at)
      ∙ ap (λ l. decimal r.at ∷ l) (word (verdict_word r.verdict) rest (verdict_is_word r.verdict)))))

module _ (r : Report) (small : IsSmall (frame_of_report r)) where
  pub says : (rest : List ℕ) → entry_of (words_of (words r rest)) ≡ Some (entries.Frame (frame_of_report r))
  says rest =
      ap entry_of (split r rest)
      ∙ ap (λ n. entry_with (frame_with n (number_in (decimal r.at)) (verdict_in (verdict_word r.verdict)))) (number_back r.number small.0)
      ∙ ap (λ n. entry_with (frame_with (Some r.number) n (verdict_in (verdict_word r.verdict)))) (number_back r.at small.1)
      ∙ ap (λ v. entry_with (frame_with (Some r.number) (Some r.at) v)) (verdict_back r.verdict)

module _ (r : Report) where
  abbrev front : List ℕ
  front = codes "frame " ++ decimal r.number ++ codes " at " ++ decimal r.at ++ codes " " ++ verdict_word r.verdict ++ codes " "

  abbrev pub text : List ℕ
  text = front ++ outcome_words r.outcome ++ figures_words r.figures ++ turn_words r.turn

  abbrev pub rest : List ℕ
  rest = outcome_words r.outcome ++ figures_words r.figures ++ turn_words r.turn

  pub spelt : text ≡ words r rest
  spelt =
      ap (λ l. l ++ turn_words r.turn) (append_assoc front (outcome_words r.outcome) (figures_words r.figures))
      ∙ append_assoc front (outcome_words r.outcome ++ figures_words r.figures) (turn_words r.turn)
      ∙ append_assoc (codes "frame " ++ decimal r.number ++ codes " at " ++ decimal r.at ++ codes " " ++ verdict_word r.verdict) (codes " ") rest
      ∙ append_assoc (codes "frame " ++ decimal r.number ++ codes " at " ++ decimal r.at ++ codes " ") (verdict_word r.verdict) _
      ∙ append_assoc (codes "frame " ++ decimal r.number ++ codes " at " ++ decimal r.at) (codes " ") _
      ∙ append_assoc (codes "frame " ++ decimal r.number ++ codes " at ") (decimal r.at) _
      ∙ append_assoc (codes "frame " ++ decimal r.number) (codes " at ") _
      ∙ append_assoc (codes "frame ") (decimal r.number) _

  front_line : IsLine (decimal r.number) → IsLine (decimal r.at) → IsLine front
  front_line number at =
      append_line (codes "frame " ++ decimal r.number ++ codes " at " ++ decimal r.at ++ codes " " ++ verdict_word r.verdict) (codes " ")
      (more_line (codes "frame " ++ decimal r.number ++ codes " at " ++ decimal r.at) (codes " ") (verdict_word r.verdict)
      (more_line (codes "frame " ++ decimal r.number) (codes " at ") (decimal r.at)
      (append_line (codes "frame ") (decimal r.number) (known_line (codes "frame ") refl) number) refl at) refl (verdict_line r.verdict))
      (known_line (codes " ") refl)

  pub frame_back : IsLine (decimal r.number) → IsLine (decimal r.at) → IsLine (outcome_words r.outcome) → IsLine (figures_words r.figures) → IsLine (turn_words r.turn) → length (frame_line r) ≤ 640
      → IsSmall (frame_of_report r) → IsReadAs (frame_line r) (entries.Frame (frame_of_report r))
  unfolding frame_line
  frame_back number at outcome figures turn short small =
      reads text (entries.Frame (frame_of_report r))
      (append_line (front ++ outcome_words r.outcome ++ figures_words r.figures) (turn_words r.turn)
      (append_line (front ++ outcome_words r.outcome) (figures_words r.figures) (append_line front (outcome_words r.outcome) (front_line number at) outcome) figures) turn)
      short (ap (λ l. entry_of (words_of l)) spelt ∙ says r small rest)

-- ---- the figures

pub figures_line : (f : Figures) → IsLine (decoding_words f) → IsLine (decimal f.known.sum) → IsLine (correlation_words f.known_correlation) → IsLine (decimal f.payload.sum) → IsLine (correlation_words f.payload_correlation)
    → IsLine (removed_words f.removed) → IsLine (figures_words (Some f))
figures_line f decoding known known_correlation payload payload_correlation removed =
    append_line (decoding_words f ++ codes " known " ++ decimal f.known.sum ++ correlation_words f.known_correlation ++ codes " payload " ++ decimal f.payload.sum ++ correlation_words f.payload_correlation) (removed_words f.removed)
    (append_line (decoding_words f ++ codes " known " ++ decimal f.known.sum ++ correlation_words f.known_correlation ++ codes " payload " ++ decimal f.payload.sum) (correlation_words f.payload_correlation)
    (more_line (decoding_words f ++ codes " known " ++ decimal f.known.sum ++ correlation_words f.known_correlation) (codes " payload ") (decimal f.payload.sum)
    (append_line (decoding_words f ++ codes " known " ++ decimal f.known.sum) (correlation_words f.known_correlation)
    (more_line (decoding_words f) (codes " known ") (decimal f.known.sum) decoding refl known) known_correlation) refl payload) payload_correlation) removed

pub removed_line : (r : Removed) → IsLine (parts_words r.gain) → IsLine (parts_words r.rotation) → IsLine (removed_words (Some r))
removed_line r gain rotation =
    append_line (codes " gain" ++ parts_words r.gain ++ codes " rotation") (parts_words r.rotation)
    (append_line (codes " gain" ++ parts_words r.gain) (codes " rotation") (append_line (codes " gain") (parts_words r.gain) (known_line (codes " gain") refl) gain) (known_line (codes " rotation") refl)) rotation

pub sums_line : (s : Sums) → IsLine (tally_words s.changed) → IsLine (tally_words s.known) → IsLine (decimal s.known_power) → IsLine (tally_words s.payload) → IsLine (decimal s.payload_power) → IsLine (sums_words (Some s))
sums_line s changed known known_power payload payload_power =
    more_line (codes " changed " ++ tally_words s.changed ++ codes " known " ++ tally_words s.known ++ codes " power " ++ decimal s.known_power ++ codes " payload " ++ tally_words s.payload) (codes " power ") (decimal s.payload_power)
    (more_line (codes " changed " ++ tally_words s.changed ++ codes " known " ++ tally_words s.known ++ codes " power " ++ decimal s.known_power) (codes " payload ") (tally_words s.payload)
    (more_line (codes " changed " ++ tally_words s.changed ++ codes " known " ++ tally_words s.known) (codes " power ") (decimal s.known_power)
    (more_line (codes " changed " ++ tally_words s.changed) (codes " known ") (tally_words s.known)
    (append_line (codes " changed ") (tally_words s.changed) (known_line (codes " changed ") refl) changed) refl known) refl known_power) refl payload) refl payload_power

-- ---- other lines

-- the words after the first are of no account
cut_says : (rest : List ℕ) → entry_of (words_of (codes "cut" ++ 32 ∷ rest)) ≡ Some entries.Other
cut_says rest = ap entry_of (word (codes "cut") rest (known is_blank (codes "cut") refl))

end_says : (rest : List ℕ) → entry_of (words_of (codes "end" ++ 32 ∷ rest)) ≡ Some entries.Other
end_says rest = ap entry_of (word (codes "end") rest (known is_blank (codes "end") refl))

pub cut_back : (at count : ℕ) → IsLine (decimal at) → IsLine (decimal count) → length (cut_line at count) ≤ 640 → IsReadAs (cut_line at count) entries.Other
unfolding cut_line
cut_back at count a b short =
    reads (codes "cut at " ++ decimal at ++ codes " symbols " ++ decimal count) entries.Other
    (more_line (codes "cut at " ++ decimal at) (codes " symbols ") (decimal count) (append_line (codes "cut at ") (decimal at) (known_line (codes "cut at ") refl) a) refl b)
    short (cut_says (codes "at " ++ decimal at ++ codes " symbols " ++ decimal count))

pub cut_bytes_back : (at count : ℕ) → IsLine (decimal at) → IsLine (decimal count) → length (cut_bytes_line at count) ≤ 640 → IsReadAs (cut_bytes_line at count) entries.Other
unfolding cut_bytes_line
cut_bytes_back at count a b short =
    reads (codes "cut at " ++ decimal at ++ codes " bytes " ++ decimal count) entries.Other
    (more_line (codes "cut at " ++ decimal at) (codes " bytes ") (decimal count) (append_line (codes "cut at ") (decimal at) (known_line (codes "cut at ") refl) a) refl b)
    short (cut_says (codes "at " ++ decimal at ++ codes " bytes " ++ decimal count))

pub end_back : (t : Totals) → IsLine (frames_words t) → IsLine (delivered_words t) → IsLine (packets_words t) → IsLine (sums_words t.sums) → length (end_line t) ≤ 640 → IsReadAs (end_line t) entries.Other
unfolding end_line frames_words
end_back t frames delivered packets sums short =
    reads (frames_words t ++ delivered_words t ++ packets_words t ++ sums_words t.sums) entries.Other
    (append_line (frames_words t ++ delivered_words t ++ packets_words t) (sums_words t.sums)
    (append_line (frames_words t ++ delivered_words t) (packets_words t) (append_line (frames_words t) (delivered_words t) frames delivered) packets) sums)
    short (end_says (codes "frames " ++ decimal t.frames ++ delivered_words t ++ packets_words t ++ sums_words t.sums))
