-- The digits of a number, up to a limit.
use Rattle.std.proofs.Common.{◌≡◌, ℕ, ◌<◌, ◌≤◌, false, List, [], ◌∷◌, Some, None, min, length, get_or, drop, refl, sym, ap, ◌∙◌, arith, drop_of_length-le}
use Rattle.std.specs.Option.{option_map}
use Rattle.s2_mode.specs.Limits.{max_symbols}
use Rattle.s2_rows.specs.Numbers.{is_digit, digits_from, natural_of}
use Rattle.s2_rows.proofs.Digits.{no_digit}

some_digit : (xs : List ℕ) → 0 < length xs → natural_of xs ≡ digits_from 0 xs
some_digit [] h = absurd (omega arith)
some_digit (b ∷ xs) h = refl

-- the bytes go on with something else
pub stops : (xs : List ℕ) (i m : ℕ) → i < length xs → is_digit (get_or xs i 0) ≡ false → digits_from m (drop i xs) ≡ digits_from 0 xs → None ≡ option_map (min max_symbols) (natural_of xs)
stops xs i m h other before = ap (option_map (min max_symbols)) (sym (no_digit xs i m h other) ∙ before ∙ sym (some_digit xs (omega arith)))

-- all bytes are digits
pub ends : (xs : List ℕ) (i n m : ℕ) → 0 < length xs → length xs ≤ i → n ≡ min max_symbols m → digits_from m (drop i xs) ≡ digits_from 0 xs → Some n ≡ option_map (min max_symbols) (natural_of xs)
unfolding digits_from
ends xs i n m some all here before =
    let empty : drop i xs ≡ [] = drop_of_length-le xs all in
    ap Some here ∙ ap (option_map (min max_symbols)) (ap (digits_from m) (sym empty) ∙ before ∙ sym (some_digit xs some))
