-- Headers without noise right behind a frame, with any lock.
use Rattle.std.proofs.Common.{◌≡◌, ℕ, ◌<◌, ◌≤◌, Bool, true, false, cond, List, take, map, length, length-take, pos, refl, sym, ap, ◌∙◌, arith}
use Rattle.std.specs.Prelude.{nat_le, min}
use Rattle.std.proofs.lemmas.Bool.{le-leb, lt-leb}
use Rattle.std.proofs.lemmas.List.FromFn.{fill_by_all, length-map-range_with_len}
use Rattle.std.proofs.Math.Nat.{min-eq_left, min-eq_right}
use Rattle.s2_mode.specs.declared.symbols.Symbol.{Symbol}
use Rattle.s2_mode.specs.Symbols.{symbol}
use Rattle.s2_mode.specs.Mode.{Mode, IsMode, symbols_in}
use Rattle.s2_mode.proofs.Modes.{frame_sizes}
use Rattle.s2_plframe.specs.Header.{header_bit, header_symbol, header_of, dummy_mode}
use Rattle.s2_plframe.specs.Frame.{frame_symbol, frame_symbols}
use Rattle.s2_plframe.specs.Search.{Decision, decision, wrong_bits, wrong_bits_dummy, found_behind}
use Rattle.s2_plframe.specs.HeaderLaws.{differences}
use Rattle.s2_plframe.specs.declared.receive.found.Found.TheVariants as founds
use Rattle.s2_plframe.proofs.HeaderFacts.{triangle, header_at, header_no_mismatch, dummies_apart_is}

min_none : (a b : ℕ) → a ≡ 0 → min a b ≡ 0
min_none a b e = let le : a ≤ b = omega (arith, e) in min-eq_left le ∙ e

min_none_right : (a b : ℕ) → b ≡ 0 → min a b ≡ 0
min_none_right a b e = let le : b ≤ a = omega (arith, e) in min-eq_right le ∙ e

-- where none differs from one header of dummy frames
pub none_dummy : (short pilots : Bool) (window : List Decision) → wrong_bits (header_bit (dummy_mode short pilots)) window ≡ 0 → wrong_bits_dummy window ≡ 0
none_dummy false false window e = min_none _ _ (min_none _ _ e)
none_dummy false true window e = min_none _ _ (min_none_right _ _ e)
none_dummy true false window e = min_none_right _ _ (min_none _ _ e)
none_dummy true true window e = min_none_right _ _ (min_none_right _ _ e)

header_behind : (m : Mode) (lock : ℕ) → found_behind m lock (map decision (header_of m)) ≡ founds.Coded
header_behind m lock =
    let window = map decision (header_of m) in
    let none : wrong_bits (header_bit m) window ≡ 0 = header_no_mismatch m in
    let dummy = wrong_bits_dummy window in
    let other = cond (nat_le dummy lock) founds.Dummy founds.Nothing in
    ap (λ n. cond (nat_le n dummy) (cond (nat_le n lock) founds.Coded founds.Nothing) other) none
    ∙ ap (λ b. cond b (cond (nat_le 0 lock) founds.Coded founds.Nothing) other) (le-leb 0 dummy (omega arith))
    ∙ ap (λ b. cond b founds.Coded founds.Nothing) (le-leb 0 lock (omega arith))

pub clean_behind : (m : Mode) (lock n : ℕ) (payload : List Symbol) → IsMode m → found_behind m lock (map decision (take 90 (frame_symbols m n payload))) ≡ founds.Coded
clean_behind m lock n payload is =
    let front = take 90 (frame_symbols m n payload) in
    let whole : length (frame_symbols m n payload) ≡ symbols_in m = length-map-range_with_len (frame_symbol m n payload) 0 (symbols_in m) in
    let some : 90 ≤ symbols_in m = omega (arith, (frame_sizes m is).symbols) in
    let sized : length front ≡ 90 = simp length-take (omega arith) in
    let header : front ≡ header_of m = fill_by_all (header_symbol m) front 90 (symbol (pos 0) (pos 0)) sized (λ k lt. header_at m n payload k is lt) in
    ap (λ symbols. found_behind m lock (map decision symbols)) header ∙ header_behind m lock

pub dummy_behind : (m : Mode) (lock : ℕ) (short pilots : Bool) → IsMode m → found_behind m lock (map decision (header_of (dummy_mode short pilots))) ≡ founds.Dummy
dummy_behind m lock short pilots is =
    let window = map decision (header_of (dummy_mode short pilots)) in
    let own = wrong_bits (header_bit m) window in
    let dummy = wrong_bits_dummy window in
    let least : 32 ≤ differences (header_bit m) (header_bit (dummy_mode short pilots)) 90 = dummies_apart_is m short pilots is in
    let both = triangle (header_bit m) (header_bit (dummy_mode short pilots)) window 90 in
    let here : wrong_bits (header_bit (dummy_mode short pilots)) window ≡ 0 = header_no_mismatch (dummy_mode short pilots) in
    let none : dummy ≡ 0 = none_dummy short pilots window here in
    let more : dummy < own = omega (arith, least, both, here, none) in
    ap (λ b. cond b (cond (nat_le own lock) founds.Coded founds.Nothing) (cond (nat_le dummy lock) founds.Dummy founds.Nothing)) (lt-leb own dummy more)
    ∙ ap (λ n. cond (nat_le n lock) founds.Dummy founds.Nothing) none
    ∙ ap (λ b. cond b founds.Dummy founds.Nothing) (le-leb 0 lock (omega arith))
