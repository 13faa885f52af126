use Rattle.std.proofs.Common.{◌≡◌, ◌-◌, ◌<◌, ◌∙◌, ℕ, List, ◌++◌, ap, length, false, inl, inr, arith, pos, length-append}
use Rattle.std.proofs.lemmas.Bool.{cases_lt, lt-ltb, le-ltb}
use Rattle.std.proofs.lemmas.List.{get_or_append_left, get_or-append_right}
use Rattle.std.proofs.lemmas.List.FromFn.{fill_by_all}
use Rattle.s2_mode.specs.declared.symbols.Symbol.{Symbol}
use Rattle.s2_mode.specs.Symbols.{symbol, symbol_at}
use Rattle.s2_scramble.specs.Gold.{quarter_turns}
use Rattle.s2_scramble.specs.Rotations.{rotated}
use Rattle.s2_plframe.specs.Header.{header_symbol, dummy_mode}
use Rattle.s2_plframe.specs.Dummy.{carrier, dummy_symbol, dummy_frame}
use Rattle.s2_plframe.proofs.send.dummy.dummy_into.Goals as goal

-- a header and the slots behind it
joined_dummy : (number : ℕ) (header slots : List Symbol) → length header ≡ 90
    → ((i : ℕ) → i < 90 → symbol_at header i ≡ header_symbol (dummy_mode false false) i)
    → ((u : ℕ) → u < 3240 → symbol_at slots u ≡ rotated (quarter_turns number u) carrier)
    → (i : ℕ) → i < 3330 → symbol_at (header ++ slots) i ≡ dummy_symbol number i
joined_dummy number header slots long front back i lt =
    let none = symbol (pos 0) (pos 0) in
    elim (cases_lt i 90) [
      | inl below ↦ rw (lt-ltb i 90 below) (get_or_append_left header slots none i (omega arith) ∙ front i below)
      | inr above ↦ rw (le-ltb i 90 above) (get_or-append_right header slots 90 i none long above ∙ back (i - 90) (omega arith))
    ]

pub returns : goal.returns
unfolding dummy_frame
returns c =
    let header = c.write_header.new.out in
    let slots = c.write_carrier.new.out in
    let front : length header ≡ 90 = c.write_header.auto.out ∙ omega (arith, c.split_at_mut-header.ensures.front_len) in
    let back : length slots ≡ 3240 = c.write_carrier.auto.out ∙ omega (arith, c.split_at_mut-header.ensures.back_len, c.requires) in
    fill_by_all (dummy_symbol c.args.gold.now) _ 3330 (symbol (pos 0) (pos 0)) (length-append header slots ∙ omega arith)
    (joined_dummy c.args.gold.now header slots front
    (λ i lt. c.write_header.ensures i lt ∙ ap (λ n. header_symbol n i) c.dummy_code.ensures)
    c.write_carrier.ensures)
