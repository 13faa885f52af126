-- A frame of a payload of origins is the frame without a payload.
use Rattle.std.proofs.Common.{◌≡◌, ℕ, zero, suc, ◌+◌, ◌-◌, ◌*◌, ◌/◌, ◌%◌, cond, List, [], pos, map, replicate, refl}
use Rattle.std.specs.Prelude.{nat_lt}
use Rattle.std.specs.List.{range_with_len}
use Rattle.s2_mode.specs.declared.symbols.Symbol.{Symbol}
use Rattle.s2_mode.specs.Symbols.{symbol, symbol_at}
use Rattle.s2_mode.specs.Mode.{Mode, symbols_in}
use Rattle.s2_scramble.specs.Gold.{quarter_turns}
use Rattle.s2_scramble.specs.Rotations.{rotated}
use Rattle.s2_plframe.specs.Frame.{frame_symbol, frame_symbols, pilot, slot_symbol}
use Rattle.s2_plframe.specs.Header.{header_symbol}
use Rattle.s2_equalize.specs.Gains.{known_frame}

-- no symbol of a payload is other than the origin
all_origins : (n k : ℕ) → symbol_at (replicate n (symbol (pos 0) (pos 0))) k ≡ symbol_at [] k
all_origins zero k = refl
all_origins (suc n) zero = refl
all_origins (suc n) (suc k) = all_origins n k

same_slot : (m : Mode) (payload : List Symbol) → ((k : ℕ) → symbol_at payload k ≡ symbol_at [] k) → (u : ℕ) → slot_symbol m payload u ≡ slot_symbol m [] u
same_slot m payload same u = λ t. cond m.pilots (cond (nat_lt (u % 1476) 1440) (same (1440 * (u / 1476) + u % 1476) t) pilot) (same u t)

same_symbol : (m : Mode) (number : ℕ) (payload : List Symbol) → ((k : ℕ) → symbol_at payload k ≡ symbol_at [] k) → (i : ℕ) → frame_symbol m number payload i ≡ frame_symbol m number [] i
same_symbol m number payload same i = λ t. cond (nat_lt i 90) (header_symbol m i) (rotated (quarter_turns number (i - 90)) (same_slot m payload same (i - 90) t))

pub origins_known : (m : Mode) (number n : ℕ) → frame_symbols m number (replicate n (symbol (pos 0) (pos 0))) ≡ known_frame m number
unfolding known_frame
origins_known m number n = λ t. map (λ i. same_symbol m number (replicate n (symbol (pos 0) (pos 0))) (all_origins n) i t) (range_with_len 0 (symbols_in m))
