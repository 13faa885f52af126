-- The codes that are listed.
use Rattle.std.proofs.Common.{◌≡◌, ◌≢◌, ℕ, zero, suc, ◌+◌, ◌-◌, ◌≤◌, ◌<◌, Bool, true, false, List, [], ◌∷◌, ◌++◌, ◌∙◌, length, get_or, ap, sym, subst, refl, arith, append-nil, append_assoc, inl, inr, Option}
use Rattle.std.specs.Prelude.{nat_le, if◌then◌else◌}
use Rattle.std.specs.List.{Contains, filter, range_with_len}
use Rattle.std.proofs.lemmas.Bool.{cases_Bool}
use Rattle.std.proofs.lemmas.List.{get_or_default}
use Rattle.std.proofs.lemmas.List.Concat.{flat_map-append}
use Rattle.std.proofs.lemmas.List.Elements.{filter-append}
use Rattle.s2_mode.specs.Limits.{max_modcod}
use Rattle.s2_mode.specs.Mode.{Mode, IsMode, mode_of, k_of, rate_of, rate_index}
use Rattle.s2_mode.proofs.Modes.{at_each, equal_at, at_most_at}
use Rattle.s2_names.specs.ModeLines.{has_code, modcods_of, line_of, lines_of}

-- a code has frames with pilot blocks, too
pub piloted_is : (modcod : ℕ) (short : Bool) → IsMode (mode_of modcod short false) → IsMode (mode_of modcod short true)
piloted_is modcod short is = record { some = is.some; most = is.most; held = is.held }

-- ---- where there is a code

mode_has : (m : Mode) → IsMode m → has_code m.short m.modcod ≡ true
unfolding k_of rate_of rate_index
mode_has m is = at_each (λ m. has_code m.short m.modcod) m refl is

-- 9/10 has no short frames
without_short : (short : Bool) (modcod n : ℕ) → has_code short modcod ≡ true → short ≡ true → has_code true n ≡ false → modcod ≢ n
without_short short modcod n has is none same =
    let at : has_code true n ≡ true = subst (λ (c : ℕ). has_code true c ≡ true) same (subst (λ (s : Bool). has_code s modcod ≡ true) is has) in
    let never : true ≡ false = sym at ∙ none in
    absurd (cc)

has_mode : (short : Bool) (modcod : ℕ) → 1 ≤ modcod → modcod ≤ max_modcod → has_code short modcod ≡ true → IsMode (mode_of modcod short false)
unfolding k_of rate_of rate_index
has_mode short modcod some most has =
    record { some = some; most = most; held = λ is. (without_short short modcod 11 has is refl, without_short short modcod 17 has is refl) }

place : Mode → ℕ
place m = if m.short then (if nat_le m.modcod 10 then m.modcod - 1 else m.modcod - 2) else m.modcod - 1

pub each_there : (m : Mode) → IsMode m → Contains (modcods_of m.short) m.modcod
unfolding place modcods_of k_of rate_of rate_index
each_there m is =
    let below : place m + 1 ≤ length (modcods_of m.short) = at_most_at (λ m. place m + 1) (λ m. length (modcods_of m.short)) m refl is in
    let found : get_or (modcods_of m.short) (place m) 0 ≡ m.modcod = equal_at (λ m. get_or (modcods_of m.short) (place m) 0) (λ m. m.modcod) m refl is in
    let within : place m < length (modcods_of m.short) = omega (arith, below) in
    (place m, within, get_or_default (modcods_of m.short) (place m) m.modcod 0 within ∙ found)

-- ---- the line of one, if there is one

abbrev pub alone : Bool → ℕ → List ℕ
alone short modcod = filter (has_code short) (modcod ∷ [])

pub code_line : (rate : Option ℕ) (modcod : ℕ) (short : Bool) → IsMode (mode_of modcod short false) → line_of rate modcod short ≡ lines_of rate short (alone short modcod)
unfolding lines_of
code_line rate modcod short is = rw (mode_has (mode_of modcod short false) is) (sym (append-nil (line_of rate modcod short)))

-- the line of a mode's code
pub alone_is : (rate : Option ℕ) (m : Mode) → IsMode m → lines_of rate m.short (alone m.short m.modcod) ≡ line_of rate m.modcod m.short
alone_is rate m is = sym (code_line rate m.modcod m.short (record { some = is.some; most = is.most; held = is.held }))

no_code : (short : Bool) (modcod : ℕ) → 1 ≤ modcod → modcod ≤ max_modcod → (IsMode (mode_of modcod short false) → ⊥) → has_code short modcod ≡ false
no_code short modcod some most none = elim (cases_Bool (has_code short modcod)) [ inl has ↦ absurd (none (has_mode short modcod some most has)) | inr not ↦ not ]

pub no_code_line : (rate : Option ℕ) (modcod : ℕ) (short : Bool) (front : List ℕ) → 1 ≤ modcod → modcod ≤ max_modcod → (IsMode (mode_of modcod short false) → ⊥)
    → front ≡ front ++ lines_of rate short (alone short modcod)
unfolding lines_of
no_code_line rate modcod short front some most none = rw (no_code short modcod some most none) (sym (append-nil front))

-- ---- one line more

range_more : (a n : ℕ) → range_with_len a (suc n) ≡ range_with_len a n ++ (a + n) ∷ []
range_more a zero = let same : a ≡ a + zero = omega arith in ap (λ k. k ∷ []) same
range_more a (suc n) =
    let next : a + 1 + n ≡ a + suc n = omega arith in
    ap (λ xs. a ∷ xs) (range_more (a + 1) n) ∙ ap (λ k. a ∷ (range_with_len (a + 1) n ++ k ∷ [])) next

-- the lines of the MODCODs below one
abbrev pub lines_below : Option ℕ → Bool → ℕ → List ℕ
lines_below rate short modcod = lines_of rate short (filter (has_code short) (range_with_len 1 (modcod - 1)))

pub line_more : (rate : Option ℕ) (short : Bool) (front : List ℕ) (modcod : ℕ) → 1 ≤ modcod
    → (front ++ lines_below rate short modcod) ++ lines_of rate short (alone short modcod) ≡ front ++ lines_below rate short (modcod + 1)
unfolding lines_of
line_more rate short front modcod some =
    let here : 1 + (modcod - 1) ≡ modcod = omega arith in
    let next : suc (modcod - 1) ≡ modcod + 1 - 1 = omega arith in
    let before = range_with_len 1 (modcod - 1) in
    let more : range_with_len 1 (modcod + 1 - 1) ≡ before ++ modcod ∷ [] =
    ap (range_with_len 1) (sym next) ∙ range_more 1 (modcod - 1) ∙ ap (λ k. before ++ k ∷ []) here in
    append_assoc front (lines_below rate short modcod) (lines_of rate short (alone short modcod))
    ∙ ap (λ lines. front ++ lines) (sym (flat_map-append (λ c. line_of rate c short) (filter (has_code short) before) (alone short modcod)))
    ∙ ap (λ codes. front ++ lines_of rate short codes) (sym (filter-append (has_code short) before (modcod ∷ [])))
    ∙ ap (λ xs. front ++ lines_of rate short (filter (has_code short) xs)) (sym more)

pub no_lines : (rate : Option ℕ) (short : Bool) (front : List ℕ) → front ≡ front ++ lines_below rate short 1
unfolding lines_of
no_lines rate short front = sym (append-nil front)

pub all_lines : (rate : Option ℕ) (short : Bool) (front : List ℕ) (modcod : ℕ) → modcod ≡ max_modcod + 1
    → front ++ lines_below rate short modcod ≡ front ++ lines_of rate short (modcods_of short)
unfolding modcods_of
all_lines rate short front modcod end = ap (λ c. front ++ lines_below rate short c) end
