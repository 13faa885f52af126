-- The symbols of a frame that are known: what they are, and where.
use Rattle.std.proofs.Common.{◌≡◌, ℕ, zero, suc, ◌+◌, ◌-◌, ◌*◌, ◌/◌, ◌%◌, ◌≤◌, ◌<◌, Bool, true, false, cond, List, ℤ, pos, neg_ℤ, refl, ap, ◌∙◌, sym, arith}
use Rattle.std.specs.Prelude.{◌==◌, nat_lt}
use Rattle.std.proofs.lemmas.Bool.{le-ltb, lt-ltb}
use Rattle.s2_mode.specs.declared.symbols.Symbol.{Symbol}
use Rattle.s2_mode.specs.Symbols.{symbol, symbol_at}
use Rattle.s2_mode.specs.Mode.{Mode, IsMode, pilot_blocks_of, slots_of, symbols_in}
use Rattle.s2_mode.proofs.Modes.{frame_sizes}
use Rattle.s2_scramble.specs.Gold.{quarter_turns}
use Rattle.s2_scramble.specs.Rotations.{rotated}
use Rattle.s2_plframe.specs.Frame.{frame_symbol, pilot, slot_symbol}
use Rattle.s2_plframe.specs.Header.{header_bit, header_point, header_symbol}
use Rattle.s2_equalize.specs.Gains.{block_length, block_start}
use Rattle.s2_equalize.proofs.Axes.{signed}

-- a symbol is one of the four that are known
pub record IsCorner (s : Symbol) : Type 0 where
  pub i : Bool
  pub q : Bool
  pub is : s ≡ symbol (signed i 700) (signed q 700)

one_of : (b : Bool) (s t : Symbol) → IsCorner s → IsCorner t → IsCorner (cond b s t)
one_of true s t p q = p
one_of false s t p q = q

pub header_corner : (i : ℕ) (bit : Bool) → IsCorner (header_point i bit)
header_corner i true =
    one_of (i % 2 == 0) (symbol (neg_ℤ (pos 700)) (neg_ℤ (pos 700))) (symbol (pos 700) (neg_ℤ (pos 700)))
    (record { i = true; q = true; is = refl }) (record { i = false; q = true; is = refl })
header_corner i false =
    one_of (i % 2 == 0) (symbol (pos 700) (pos 700)) (symbol (neg_ℤ (pos 700)) (pos 700))
    (record { i = false; q = false; is = refl }) (record { i = true; q = false; is = refl })

pub pilot_corner : (quarters : ℕ) → IsCorner (rotated quarters pilot)
pilot_corner zero = record { i = false; q = false; is = refl }
pilot_corner (suc zero) = record { i = true; q = false; is = refl }
pilot_corner (suc (suc zero)) = record { i = true; q = true; is = refl }
pilot_corner (suc (suc (suc n))) = record { i = false; q = true; is = refl }

-- a place of a block of known symbols: it is in the frame, and what is sent there is one of the four, whatever the payload is
pub record IsKnownPlace (m : Mode) (number i : ℕ) : Type 0 where
  pub sent : Symbol
  pub corner : IsCorner sent
  pub each : (payload : List Symbol) → frame_symbol m number payload i ≡ sent
  pub inside : i < symbols_in m

in_header : (m : Mode) (number i : ℕ) → IsMode m → i < 90 → IsKnownPlace m number i
in_header m number i is lt =
    let whole = (frame_sizes m is).symbols in
    record {
      sent = header_symbol m i;
      corner = header_corner i (header_bit m i);
      each = λ payload. ap (λ b. cond b (header_symbol m i) (rotated (quarter_turns number (i - 90)) (slot_symbol m payload (i - 90)))) (lt-ltb i 90 lt);
      inside = omega (arith, whole, lt);
    }

-- symbol u after the header is a pilot
pilot_at : (m : Mode) (payload : List Symbol) (u : ℕ) → m.pilots ≡ true → 1440 ≤ u % 1476 → slot_symbol m payload u ≡ pilot
pilot_at m payload u pilots late =
    ap (λ b. cond b (cond (nat_lt (u % 1476) 1440) (symbol_at payload (1440 * (u / 1476) + u % 1476)) pilot) (symbol_at payload u)) pilots
    ∙ ap (λ b. cond b (symbol_at payload (1440 * (u / 1476) + u % 1476)) pilot) (le-ltb (u % 1476) 1440 late)

in_pilots : (m : Mode) (number k j : ℕ) → IsMode m → k < pilot_blocks_of m → j < 36 → IsKnownPlace m number (90 + 1476 * k + 1440 + j)
in_pilots m number k j is lt few = by m.pilots refl
  where
    by : (pilots : Bool) → m.pilots ≡ pilots → IsKnownPlace m number (90 + 1476 * k + 1440 + j)
    by false e = let none : pilot_blocks_of m ≡ 0 = (frame_sizes m is).no_blocks e in absurd (omega arith)
    by true e =
        let i = 90 + 1476 * k + 1440 + j in
        let whole = (frame_sizes m is).symbols in
        let fit : 16 * pilot_blocks_of m < slots_of m = ((frame_sizes m is).blocks e).0 in
        let above : 90 ≤ i = omega arith in
        let late : 1440 ≤ (i - 90) % 1476 = omega arith in
        record {
          sent = rotated (quarter_turns number (i - 90)) pilot;
          corner = pilot_corner (quarter_turns number (i - 90));
          each = λ payload. ap (λ b. cond b (header_symbol m i) (rotated (quarter_turns number (i - 90)) (slot_symbol m payload (i - 90)))) (le-ltb i 90 above)
              ∙ ap (rotated (quarter_turns number (i - 90))) (pilot_at m payload (i - 90) e late);
          inside = omega (arith, whole, fit, lt, few);
        }

-- the places of the blocks
pub in_block : (m : Mode) (number k j : ℕ) → IsMode m → k ≤ pilot_blocks_of m → j < block_length k → IsKnownPlace m number (block_start k + j)
in_block m number zero j is le lt = in_header m number (0 + j) is (omega (arith, lt))
in_block m number (suc k) j is le lt = in_pilots m number k j is (omega (arith, le)) lt
