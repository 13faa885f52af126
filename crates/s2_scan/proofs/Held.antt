-- What registers hold of the last symbols and of a window.
use Rattle.std.proofs.Common.{◌≡◌, ℕ, zero, suc, ◌+◌, ◌-◌, ◌*◌, ◌<◌, Bool, true, false, List, drop, ap, sym, ◌∙◌, subst, arith}
use Rattle.std.specs.Prelude.{if◌then◌else◌}
use Rattle.std.proofs.lemmas.List.{get_or-take, get_or-drop}
use Rattle.s2_mode.specs.Symbols.{symbol_of}
use Rattle.s2_plframe.specs.Search.{decision}
use Rattle.s2_plframe.specs.Inside.{held}
use Rattle.s2_plframe.specs.declared.receive.registers.Signs.{Signs}
use Rattle.s2_scan.specs.Forms.{byte_at, symbol_in, undo, is_little, orientation_of}
use Rattle.s2_scan.specs.Inside.{HoldsLast, HoldsWindow, decisions_by}
use Rattle.s2_scan.specs.Passing.{window_at, seen_as}
use Rattle.s2_scan.proofs.Ranges.{same_maps}

pub none_held : (little : Bool) (bytes : List ℕ) (odd even : ℕ) → HoldsLast little bytes 0 odd even
none_held little bytes odd even = record { each = λ j lt few. absurd (omega arith) }

pub one_held : (little : Bool) (bytes : List ℕ) (n odd even odd' even' : ℕ) → HoldsLast little bytes n odd even
    → held odd' even' 0 ≡ decision (symbol_in little bytes n) → ((j : ℕ) → j < 127 → held odd' even' (j + 1) ≡ held odd even j) → HoldsLast little bytes (n + 1) odd' even'
one_held little bytes n odd even odd' even' before newest others = record { each = each }
  where
    each : (j : ℕ) → j < n + 1 → j < 90 → held odd' even' j ≡ decision (symbol_in little bytes (n + 1 - 1 - j))
    each zero lt few = let here : n ≡ n + 1 - 1 - 0 = omega arith in newest ∙ ap (λ k. decision (symbol_in little bytes k)) here
    each (suc i) lt few =
        let next : suc i ≡ i + 1 = omega arith in
        let place : n - 1 - i ≡ n + 1 - 1 - suc i = omega arith in
        ap (held odd' even') next ∙ (others i (omega arith) ∙ (before.each i (omega arith) (omega arith) ∙ ap (λ k. decision (symbol_in little bytes k)) place))

-- a byte of a window
window_byte : (p : ℕ) (bytes : List ℕ) (i at : ℕ) → i < 360 → 4 * p + i ≡ at → byte_at (window_at p bytes) i ≡ byte_at bytes at
window_byte p bytes i at lt is = get_or-take 360 (drop (4 * p) bytes) i 0 lt ∙ (get_or-drop (4 * p) bytes i 0 ∙ ap (byte_at bytes) is)

-- a symbol of a window
pub window_symbol : (little : Bool) (p : ℕ) (bytes : List ℕ) (k : ℕ) → k < 90 → symbol_in little (window_at p bytes) k ≡ symbol_in little bytes (p + k)
unfolding symbol_in
window_symbol little p bytes k lt =
    let a = window_byte p bytes (4 * k) (4 * (p + k)) (omega arith) (omega arith) in
    let b = window_byte p bytes (4 * k + 1) (4 * (p + k) + 1) (omega arith) (omega arith) in
    let c = window_byte p bytes (4 * k + 2) (4 * (p + k) + 2) (omega arith) (omega arith) in
    let d = window_byte p bytes (4 * k + 3) (4 * (p + k) + 3) (omega arith) (omega arith) in
    λ t. if little then symbol_of (b t) (a t) (d t) (c t) else symbol_of (a t) (b t) (c t) (d t)

pub window_held : (little : Bool) (bytes : List ℕ) (n p odd even : ℕ) → HoldsLast little bytes n odd even → n ≡ p + 90 → HoldsWindow little (window_at p bytes) odd even
window_held little bytes n p odd even last is = record {
  each = λ k lt.
      let place : n - 1 - (89 - k) ≡ p + k = omega arith in
      last.each (89 - k) (omega arith) (omega arith) ∙ (ap (λ j. decision (symbol_in little bytes j)) place ∙ sym (ap decision (window_symbol little p bytes k lt)));
}

-- registers in the byte order of a form
pub chosen_holds : (little : Bool) (window : List ℕ) (a b s : Signs) → s ≡ (if little then b else a) → HoldsWindow false window a.odd a.even → HoldsWindow true window b.odd b.even → HoldsWindow little window s.odd s.even
chosen_holds true window a b s is big small = subst (λ (r : Signs). HoldsWindow true window r.odd r.even) (sym is) small
chosen_holds false window a b s is big small = subst (λ (r : Signs). HoldsWindow false window r.odd r.even) (sym is) big

-- the decisions on a window in a form
pub seen_is : (form : ℕ) (window : List ℕ) (odd even : ℕ) → HoldsWindow (is_little form) window odd even → decisions_by (orientation_of form) odd even ≡ seen_as form window
unfolding decisions_by seen_as
seen_is form window odd even holds =
    same_maps (λ k. undo (orientation_of form) (held odd even (90 - 1 - k))) (λ k. undo (orientation_of form) (decision (symbol_in (is_little form) window k))) 90
    (λ k lt. let place : 90 - 1 - k ≡ 89 - k = omega arith in ap (λ j. undo (orientation_of form) (held odd even j)) place ∙ ap (undo (orientation_of form)) (holds.each k lt))
