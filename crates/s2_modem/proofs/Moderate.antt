-- The points of a payload are far below what the equalizer can give back.
use Rattle.s2_modem.proofs.Names.{cond_both, ◌≡◌, ℕ, zero, suc, ◌*◌, ◌≤◌, Bool, true, List, [], ◌∷◌, ℤ, pos, negsuc, refl, arith, nat_le, All, range_with_len, leb-true, ints, All-head, All-tail, All-from_recursion, All-map, Mode, is_qpsk, slots_of, symbol_at, symbol, Symbol, points, qpsk_points, psk_points, payload_of, payload_symbol, IsModerate}
use Rattle.std.proofs.Common.{unsigned_abs}

abbrev is_low : ℤ → Bool
is_low (pos n) = nat_le n 4095
is_low (negsuc n) = nat_le n 4094

size : (c : ℤ) → is_low c ≡ true → unsigned_abs c ≤ 4095
size (pos n) h = let few = leb-true n 4095 h in omega (arith, ints, few)
size (negsuc n) h = let few = leb-true n 4094 h in omega (arith, ints, few)

low : (i q : ℤ) → is_low i ≡ true → is_low q ≡ true → IsModerate 1 (symbol i q)
low i q a b =
    let left = size i a in
    let right = size q b in
    record { i = left; q = right; i_fits = omega (arith, left); q_fits = omega (arith, right) }

moderate_at : (symbols : List Symbol) (k : ℕ) → All (IsModerate 1) symbols → IsModerate 1 (symbol_at symbols k)
moderate_at [] k h = low _ _ refl refl
moderate_at (s ∷ symbols) zero h = All-head (IsModerate 1) s symbols h
moderate_at (s ∷ symbols) (suc k) h = moderate_at symbols k (All-tail (IsModerate 1) s symbols h)

points_moderate : (m : Mode) → All (IsModerate 1) (points m)
points_moderate m =
    cond_both (is_qpsk m) qpsk_points psk_points (All (IsModerate 1))
    (λ _. All-from_recursion (IsModerate 1) qpsk_points (low _ _ refl refl, (low _ _ refl refl, (low _ _ refl refl, (low _ _ refl refl, tt)))))
    (λ _. All-from_recursion (IsModerate 1) psk_points (low _ _ refl refl, (low _ _ refl refl, (low _ _ refl refl, (low _ _ refl refl, (low _ _ refl refl, (low _ _ refl refl, (low _ _ refl refl, (low _ _ refl refl, tt)))))))))

pub payload_moderate : (m : Mode) (word : List Bool) (k : ℕ) → IsModerate 1 (symbol_at (payload_of m word) k)
payload_moderate m word k =
    let places = range_with_len 0 (90 * slots_of m) in
    moderate_at (payload_of m word) k (All-map (IsModerate 1) (payload_symbol m word) places (λ j d lt. moderate_at (points m) _ (points_moderate m)))
