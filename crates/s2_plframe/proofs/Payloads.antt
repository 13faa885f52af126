-- The payload of a frame, read block by block.
use Rattle.std.proofs.Common.{◌≡◌, ℕ, zero, suc, ◌+◌, ◌-◌, ◌*◌, ◌/◌, ◌%◌, ◌<◌, ◌≤◌, Bool, true, false, List, length, ℤ, pos, inl, inr, refl, sym, ap, ◌∙◌, arith}
use Rattle.std.proofs.lemmas.Bool.{cases_lt, lt-ltb, le-ltb}
use Rattle.std.proofs.lemmas.Int.{ints, clamps}
use Rattle.std.proofs.lemmas.List.FromFn.{fill_by_all, get_or-map-range_with_len}
use Rattle.s2_mode.specs.declared.symbols.Symbol.{Symbol}
use Rattle.s2_mode.specs.Symbols.{symbol, symbol_at}
use Rattle.s2_mode.specs.Mode.{Mode, IsMode, slots_of, pilot_blocks_of, symbols_in}
use Rattle.s2_mode.proofs.Modes.{frame_sizes}
use Rattle.s2_bits.specs.Bits.{number}
use Rattle.s2_scramble.specs.Gold.{z, quarter_turns}
use Rattle.s2_scramble.specs.Rotations.{negative, rotated, rotated_back, HasNegative, CanRotateBack}
use Rattle.s2_plframe.specs.Frame.{slot_symbol, frame_symbol, frame_symbols}
use Rattle.s2_plframe.specs.Payload.{slot_place, received_symbol, received_payload, AllRotateBack}
use Rattle.s2_plframe.specs.Inside.{place_behind}

-- ---- places

pub in_block : (blocks block k : ℕ) → block < blocks → k < 1440 → place_behind blocks (1440 * block + k) ≡ 1476 * block + k
in_block blocks block k lt small =
    let inside : 1440 * block + k < 1440 * blocks = omega arith in
    rw (lt-ltb (1440 * block + k) (1440 * blocks) inside) (omega arith)

pub past_blocks : (blocks s : ℕ) → 1440 * blocks ≤ s → place_behind blocks s ≡ s + 36 * blocks
past_blocks blocks s past = rw (le-ltb s (1440 * blocks) past) refl

with_pilots : (m : Mode) (s : ℕ) → m.pilots ≡ true → slot_place m s ≡ 1476 * (s / 1440) + s % 1440
with_pilots m s e = rw e refl

without_pilots : (m : Mode) (s : ℕ) → m.pilots ≡ false → slot_place m s ≡ s
without_pilots m s e = rw e refl

place_inside : (blocks s : ℕ) → s < 1440 * blocks → place_behind blocks s ≡ 1476 * (s / 1440) + s % 1440
place_inside blocks s lt = rw (lt-ltb s (1440 * blocks) lt) refl

pub place_is : (m : Mode) (pilots : Bool) (s : ℕ) → IsMode m → m.pilots ≡ pilots → s < 90 * slots_of m → place_behind (pilot_blocks_of m) s ≡ slot_place m s
place_is m true s is e lt =
    let b = pilot_blocks_of m in
    let reach : slots_of m ≤ 16 * b + 16 = ((frame_sizes m is).blocks e).1 in
    elim (cases_lt s (1440 * b)) [
      | inl inside ↦ place_inside b s inside ∙ sym (with_pilots m s e)
      | inr past ↦
          let same : s + 36 * b ≡ 1476 * (s / 1440) + s % 1440 = omega arith in
          past_blocks b s past ∙ (same ∙ sym (with_pilots m s e))
    ]
place_is m false s is e lt =
    let none : pilot_blocks_of m ≡ 0 = (frame_sizes m is).no_blocks e in
    let past : 1440 * pilot_blocks_of m ≤ s = omega arith in
    let same : s + 36 * pilot_blocks_of m ≡ s = omega arith in
    past_blocks (pilot_blocks_of m) s past ∙ (same ∙ sym (without_pilots m s e))

-- each place is in the frame
pub place_within : (m : Mode) (pilots : Bool) (s : ℕ) → IsMode m → m.pilots ≡ pilots → s < 90 * slots_of m → 90 + slot_place m s < symbols_in m
place_within m true s is e lt =
    let b = pilot_blocks_of m in
    let sizes = frame_sizes m is in
    let reach : slots_of m ≤ 16 * b + 16 = (sizes.blocks e).1 in
    let place = with_pilots m s e in
    let whole : symbols_in m ≡ 90 + 90 * slots_of m + 36 * b = sizes.symbols in
    omega arith
place_within m false s is e lt =
    let sizes = frame_sizes m is in
    let place = without_pilots m s e in
    let whole : symbols_in m ≡ 90 + 90 * slots_of m + 36 * pilot_blocks_of m = sizes.symbols in
    omega arith

-- ---- rotated and rotated back

twice_negative : (c : ℤ) → HasNegative c → negative (negative c) ≡ c
twice_negative c h = omega (arith, ints, clamps, h.0, h.1)

pub undone : (n : ℕ) (s : Symbol) → n < 4 → CanRotateBack s → rotated_back n (rotated n s) ≡ s
undone zero s lt can = refl
undone (suc zero) s lt can = λ t. symbol (s.i) (twice_negative s.q can.q t)
undone (suc (suc zero)) s lt can = λ t. symbol (twice_negative s.i can.i t) (twice_negative s.q can.q t)
undone (suc (suc (suc zero))) s lt can = λ t. symbol (twice_negative s.i can.i t) s.q
undone (suc (suc (suc (suc n)))) s lt can = absurd (omega arith)

pub number_small : (b : Bool) → number b ≤ 1
number_small true = omega arith
number_small false = omega arith

pub quarters_small : (n i : ℕ) → quarter_turns n i < 4
quarters_small n i = omega (arith, number_small (z n ((i + 131072) % 262143)), number_small (z n i))

-- ---- a frame's payload

slot_is : (m : Mode) (pilots : Bool) (sent : List Symbol) (s : ℕ) → m.pilots ≡ pilots → slot_symbol m sent (slot_place m s) ≡ symbol_at sent s
slot_is m true sent s e =
    let u = 1476 * (s / 1440) + s % 1440 in
    let column : u % 1476 < 1440 = omega arith in
    let same : 1440 * (u / 1476) + u % 1476 ≡ s = omega arith in
    ap (slot_symbol m sent) (with_pilots m s e) ∙ rw (e, lt-ltb (u % 1476) 1440 column) (ap (symbol_at sent) same)
slot_is m false sent s e = ap (slot_symbol m sent) (without_pilots m s e) ∙ rw e refl

behind_header : (m : Mode) (number : ℕ) (sent : List Symbol) (u : ℕ) → frame_symbol m number sent (90 + u) ≡ rotated (quarter_turns number u) (slot_symbol m sent u)
behind_header m number sent u =
    let past : 90 ≤ 90 + u = omega arith in
    let same : 90 + u - 90 ≡ u = omega arith in
    rw (le-ltb (90 + u) 90 past) (ap (λ v. rotated (quarter_turns number v) (slot_symbol m sent v)) same)

received_is : (m : Mode) (number : ℕ) (sent : List Symbol) (s : ℕ) → IsMode m → s < 90 * slots_of m → CanRotateBack (symbol_at sent s)
    → received_symbol m number (frame_symbols m number sent) s ≡ symbol_at sent s
received_is m number sent s is lt can =
    let u = slot_place m s in
    let within : 90 + u < symbols_in m = place_within m m.pilots s is refl lt in
    let here : 0 + (90 + u) ≡ 90 + u = omega arith in
    let at : symbol_at (frame_symbols m number sent) (90 + u) ≡ rotated (quarter_turns number u) (symbol_at sent s) =
    get_or-map-range_with_len (frame_symbol m number sent) 0 (symbols_in m) (90 + u) (90 + u) (symbol (pos 0) (pos 0)) within here
    ∙ (behind_header m number sent u ∙ ap (rotated (quarter_turns number u)) (slot_is m m.pilots sent s refl)) in
    ap (rotated_back (quarter_turns number u)) at ∙ undone (quarter_turns number u) (symbol_at sent s) (quarters_small number u) can

-- what was framed is received
pub payload_again : (m : Mode) (number : ℕ) (sent : List Symbol) → IsMode m → length sent ≡ 90 * slots_of m → AllRotateBack sent
    → received_payload m number (frame_symbols m number sent) ≡ sent
payload_again m number sent is long can =
    sym (fill_by_all (received_symbol m number (frame_symbols m number sent)) sent (90 * slots_of m) (symbol (pos 0) (pos 0)) long
    (λ s lt. let inside : s < length sent = omega arith in sym (received_is m number sent s is lt (can s inside))))
