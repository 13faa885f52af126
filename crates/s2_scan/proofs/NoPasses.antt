-- Windows with no pass.
use Rattle.std.proofs.Common.{◌≡◌, ℕ, ◌+◌, ◌-◌, ◌<◌, ◌≤◌, Bool, true, false, List, [], ap, sym, ◌∙◌, subst, inl, inr, arith}
use Rattle.std.specs.Prelude.{if◌then◌else◌}
use Rattle.std.specs.List.{flat_map}
use Rattle.std.proofs.lemmas.Bool.{cases_Bool}
use Rattle.s2_scan.specs.Forms.{forms, is_little, orientation_of}
use Rattle.s2_scan.specs.Inside.{HoldsLast, HoldsWindow, NoneMatches}
use Rattle.s2_scan.specs.Passing.{headers, matches_sof, passes_as, passes_at, passes_in_form, seen_as, window_at}
use Rattle.s2_scan.proofs.Held.{seen_is, window_held}
use Rattle.s2_scan.proofs.Ranges.{flat_empty}

-- the start of frame does not match: no header does
pub none_in_form : (position : ℕ) (window : List ℕ) (form : ℕ) → matches_sof (seen_as form window) ≡ false → passes_in_form position window form ≡ []
unfolding passes_in_form
none_in_form position window form is = ap (λ (b : Bool). if b then flat_map (passes_as position window form) headers else []) is

-- it does: all headers are tried
pub some_in_form : (position : ℕ) (window : List ℕ) (form : ℕ) → matches_sof (seen_as form window) ≡ true → passes_in_form position window form ≡ flat_map (passes_as position window form) headers
unfolding passes_in_form
some_in_form position window form is = ap (λ (b : Bool). if b then flat_map (passes_as position window form) headers else []) is

form_none : (position : ℕ) (window : List ℕ) (odd even form : ℕ) → HoldsWindow (is_little form) window odd even → NoneMatches odd even → passes_in_form position window form ≡ []
form_none position window odd even form holds none =
    let orientation : orientation_of form < 8 = omega arith in
    none_in_form position window form (sym (ap matches_sof (seen_is form window odd even holds)) ∙ none (orientation_of form) orientation)

pub no_passes : (position : ℕ) (window : List ℕ) (big_odd big_even odd even : ℕ) → HoldsWindow false window big_odd big_even → HoldsWindow true window odd even
    → NoneMatches big_odd big_even → NoneMatches odd even → passes_at position window ≡ []
unfolding passes_at
no_passes position window big_odd big_even odd even big little no_big no_little = flat_empty (passes_in_form position window) forms each
  where
    each : (form : ℕ) → passes_in_form position window form ≡ []
    each form = elim (cases_Bool (is_little form)) [
      | inl is ↦ form_none position window odd even form (subst (λ (b : Bool). HoldsWindow b window odd even) (sym is) little) no_little
      | inr not ↦ form_none position window big_odd big_even form (subst (λ (b : Bool). HoldsWindow b window big_odd big_even) (sym not) big) no_big
    ]

-- no pass ends with symbol k
pub none_last : (position : ℕ) (bytes : List ℕ) (k big_odd big_even odd even : ℕ) → 89 ≤ k → HoldsLast false bytes (k + 1) big_odd big_even → HoldsLast true bytes (k + 1) odd even
    → NoneMatches big_odd big_even → NoneMatches odd even → passes_at position (window_at (k - 89) bytes) ≡ []
none_last position bytes k big_odd big_even odd even late big little no_big no_little =
    let place : k + 1 ≡ k - 89 + 90 = omega arith in
    no_passes position (window_at (k - 89) bytes) big_odd big_even odd even
    (window_held false bytes (k + 1) (k - 89) big_odd big_even big place) (window_held true bytes (k + 1) (k - 89) odd even little place) no_big no_little
