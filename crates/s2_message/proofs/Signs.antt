-- The wrong bits of a header, from the signs of its symbols.
use Rattle.std.proofs.Common.{◌≡◌, ℕ, ◌-◌, ◌<◌, ◌≤◌, List, length, length-take, take, map, pos, bit_xor, sym, subst, ◌∙◌, arith}
use Rattle.std.specs.Int.RustNames.{count_ones}
use Rattle.std.proofs.Math.ListN.{get_or-map}
use Rattle.std.proofs.lemmas.List.{get_or-take, length-map}
use Rattle.std.proofs.lemmas.List.FromFn.{fill_by_all}
use Rattle.s2_mode.specs.declared.symbols.Symbol.{Symbol}
use Rattle.s2_mode.specs.Symbols.{symbol, symbol_at}
use Rattle.s2_mode.specs.Mode.{Mode}
use Rattle.s2_plframe.specs.Header.{header_bit}
use Rattle.s2_plframe.specs.Search.{Decision, decision}
use Rattle.s2_plframe.specs.Inside.{held, held_list, IsHeader, IsWindow}
use Rattle.s2_plframe.proofs.Mismatches.{wrong_is}
use Rattle.s2_message.specs.Header.{header_errors}

-- the last decisions that two numbers hold, if they hold each
held_symbols : (odd even n : ℕ) (symbols : List Symbol) → n ≤ length symbols → ((k : ℕ) → k < n → held odd even (n - 1 - k) ≡ decision (symbol_at symbols k))
    → map decision (take n symbols) ≡ held_list odd even n
held_symbols odd even n symbols enough each =
    let origin = symbol (pos 0) (pos 0) in
    let none : Decision = decision origin in
    let sized : length (take n symbols) ≡ n = simp length-take (omega arith) in
    fill_by_all (λ k. held odd even (n - 1 - k)) (map decision (take n symbols)) n none (length-map (take n symbols) decision ∙ sized)
    (λ k lt. get_or-map decision (take n symbols) k origin ∙ (λ t. decision ((get_or-take n symbols k origin lt) t)) ∙ sym (each k lt))

-- the ones of a difference of two numbers are the wrong bits
pub wrong_signs : (m : Mode) (header window odd even : ℕ) (symbols : List Symbol) → 90 ≤ length symbols
    → ((k : ℕ) → k < 90 → held odd even (89 - k) ≡ decision (symbol_at symbols k)) → IsHeader (header_bit m) header → IsWindow (held_list odd even 90) window
    → count_ones (bit_xor header window) ≡ header_errors m symbols
unfolding header_errors
wrong_signs m header window odd even symbols enough each is_header is_window =
    let same : map decision (take 90 symbols) ≡ held_list odd even 90 = held_symbols odd even 90 symbols enough each in
    wrong_is (header_bit m) (map decision (take 90 symbols)) header window is_header (subst (λ seen. IsWindow seen window) (sym same) is_window)
