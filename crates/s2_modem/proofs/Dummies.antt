-- The dummy frames of a link are found.
use Rattle.s2_modem.proofs.Names.{◌≡◌, ℕ, ◌+◌, ◌<◌, true, false, length, take, map, pos, refl, ap, ◌∙◌, arith, length-take-le, lt-ltb, get_or-take, fill_by_all, get_or-map-range_with_len, length-map-range_with_len, Mode, IsMode, symbol, header_symbol, dummy_mode, range_with_len, dummy_symbol, dummy_frame, found, found_behind, dummy_found, dummy_behind, IsDummy, found_as, sym, Bool, sides, sought_of, found_in, behind_in, straight_is, turned_dummy_is, map-id}
use Rattle.s2_plframe.specs.Header.{header_of}

length_dummy : (number : ℕ) → length (dummy_frame number) ≡ 3330
unfolding dummy_frame
length_dummy number = length-map-range_with_len (dummy_symbol number) 0 3330

dummy_front : (number : ℕ) → take 90 (dummy_frame number) ≡ map (header_symbol (dummy_mode false false)) (range_with_len 0 90)
unfolding dummy_frame
dummy_front number =
    let none = symbol (pos 0) (pos 0) in
    let long = length_dummy number in
    fill_by_all (header_symbol (dummy_mode false false)) (take 90 (dummy_frame number)) 90 none (length-take-le 90 (dummy_frame number) (omega (arith, long)))
    (λ k lt. (let inside : k < 3330 = omega arith in let here : 0 + k ≡ k = omega arith in
    get_or-take 90 (dummy_frame number) k none lt ∙ get_or-map-range_with_len (dummy_symbol number) 0 3330 k k none inside here ∙ rw (lt-ltb k 90 lt) refl))

pub dummy_is : (m : Mode) (turns : Bool) (lock number : ℕ) → IsMode m → (behind : Bool) → IsDummy (found_as (sought_of m turns) lock) behind (dummy_frame number)
unfolding found_as
dummy_is m false lock number valid true = (length_dummy number, ap (λ symbols. behind_in (sought_of m false) lock (map (sides false) symbols)) (dummy_front number) ∙ ap (found_behind m lock) (straight_is (header_of (dummy_mode false false))) ∙ dummy_behind m lock false false valid)
dummy_is m false lock number valid false = (length_dummy number, ap (λ symbols. found_in (sought_of m false) (map (sides false) symbols)) (dummy_front number) ∙ ap (found m) (straight_is (header_of (dummy_mode false false))) ∙ dummy_found m false false valid)
dummy_is m true lock number valid true =
    (length_dummy number, ap (λ symbols. behind_in (sought_of m true) lock (map (sides true) symbols)) (dummy_front number ∙ sym (map-id (header_of (dummy_mode false false)))) ∙ (turned_dummy_is m false false lock 0 valid (omega arith)).1)
dummy_is m true lock number valid false =
    (length_dummy number, ap (λ symbols. found_in (sought_of m true) (map (sides true) symbols)) (dummy_front number ∙ sym (map-id (header_of (dummy_mode false false)))) ∙ (turned_dummy_is m false false lock 0 valid (omega arith)).0)
