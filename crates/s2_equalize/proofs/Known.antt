-- The components of the symbols that are known.
use Rattle.std.proofs.Common.{◌≡◌, ℕ, zero, suc, ◌+◌, ◌-◌, ◌*◌, ◌≤◌, ◌<◌, Bool, true, false, cond, ℤ, pos, neg_ℤ, unsigned_abs, [], length, subst, sym, arith, ◌%◌, ◌/◌}
use Rattle.std.specs.Prelude.{nat_lt, ◌==◌}
use Rattle.std.proofs.lemmas.Int.{ints, clamps}
use Rattle.std.proofs.lemmas.List.FromFn.{get_or-map-range_with_len, length-map-range_with_len}
use Rattle.s2_mode.specs.declared.symbols.Symbol.{Symbol}
use Rattle.s2_mode.specs.Symbols.{symbol, symbol_at}
use Rattle.s2_mode.specs.Mode.{Mode, symbols_in}
use Rattle.s2_scramble.specs.Gold.{quarter_turns}
use Rattle.s2_scramble.specs.Rotations.{negative, rotated}
use Rattle.s2_plframe.specs.Frame.{frame_symbol, pilot, slot_symbol, spaced_symbol}
use Rattle.s2_plframe.specs.Header.{header_point, header_symbol, header_bit}
use Rattle.s2_equalize.specs.Bounds.{AreSmall, IsSmall}
use Rattle.s2_equalize.specs.Gains.{known_frame}

small : (i q : ℤ) → unsigned_abs i ≤ 700 → unsigned_abs q ≤ 700 → IsSmall (symbol i q)
small i q a b = record { i = a; q = b }

negative_small : (z : ℤ) → unsigned_abs z ≤ 700 → unsigned_abs (negative z) ≤ 700
negative_small z h = omega (arith, ints, clamps, h)

rotated_small : (quarters : ℕ) (s : Symbol) → IsSmall s → IsSmall (rotated quarters s)
rotated_small zero s h = h
rotated_small (suc zero) s h = record { i = negative_small s.q h.q; q = h.i }
rotated_small (suc (suc zero)) s h = record { i = negative_small s.i h.i; q = negative_small s.q h.q }
rotated_small (suc (suc (suc n))) s h = record { i = h.q; q = negative_small s.i h.i }

origin_small : IsSmall (symbol (pos 0) (pos 0))
origin_small = record { i = omega (arith, ints); q = omega (arith, ints) }

pilot_small : IsSmall pilot
pilot_small = record { i = omega (arith, ints); q = omega (arith, ints) }

one_of_small : (b : Bool) (s t : Symbol) → IsSmall s → IsSmall t → IsSmall (cond b s t)
one_of_small true s t p q = p
one_of_small false s t p q = q

-- both points of a header bit
point_small : (i : ℕ) (bit : Bool) → IsSmall (header_point i bit)
point_small i true =
    one_of_small (i % 2 == 0) (symbol (neg_ℤ (pos 700)) (neg_ℤ (pos 700))) (symbol (pos 700) (neg_ℤ (pos 700)))
    (record { i = omega (arith, ints); q = omega (arith, ints) }) (record { i = omega (arith, ints); q = omega (arith, ints) })
point_small i false =
    one_of_small (i % 2 == 0) (symbol (pos 700) (pos 700)) (symbol (neg_ℤ (pos 700)) (pos 700))
    (record { i = omega (arith, ints); q = omega (arith, ints) }) (record { i = omega (arith, ints); q = omega (arith, ints) })

-- a slot's symbol without a payload
slot_small : (m : Mode) (u : ℕ) → IsSmall (slot_symbol m [] u)
slot_small m u =
    one_of_small m.pilots (spaced_symbol [] u) (symbol_at [] u)
    (one_of_small (nat_lt (u % 1476) 1440) (symbol_at [] (1440 * (u / 1476) + u % 1476)) pilot origin_small pilot_small) origin_small

frame_small : (m : Mode) (number i : ℕ) → IsSmall (frame_symbol m number [] i)
frame_small m number i =
    one_of_small (nat_lt i 90) (header_symbol m i) (rotated (quarter_turns number (i - 90)) (slot_symbol m [] (i - 90)))
    (point_small i (header_bit m i)) (rotated_small (quarter_turns number (i - 90)) (slot_symbol m [] (i - 90)) (slot_small m (i - 90)))

-- the symbols that are known, and the origins between them
pub known_small : (m : Mode) (number : ℕ) → AreSmall (known_frame m number)
unfolding known_frame
known_small m number = λ i lt.
    let long = length-map-range_with_len (frame_symbol m number []) 0 (symbols_in m) in
    let inside : i < symbols_in m = omega (arith, long, lt) in
    let is = get_or-map-range_with_len (frame_symbol m number []) 0 (symbols_in m) i i (symbol (pos 0) (pos 0)) inside (omega arith) in
    subst IsSmall (sym is) (frame_small m number i)

pub known_length : (m : Mode) (number : ℕ) → length (known_frame m number) ≡ symbols_in m
unfolding known_frame
known_length m number = length-map-range_with_len (frame_symbol m number []) 0 (symbols_in m)
