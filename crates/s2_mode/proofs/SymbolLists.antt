-- Bytes as symbols, four at a time.
use Rattle.std.proofs.Common.{◌≡◌, ℕ, ◌+◌, ◌-◌, ◌*◌, ◌<◌, ◌≤◌, List, [], ◌∷◌, ◌++◌, length, take, get_or, set, refl, sym, ap, ◌∙◌, append_assoc, length-take-le, arith}
use Rattle.std.proofs.lemmas.List.{take_more, take_more_set}
use Rattle.s2_mode.specs.Symbols.{symbols_of, symbol_of}
use Rattle.s2_mode.specs.declared.symbols.Symbol.{Symbol}

pub symbols-append : (n : ℕ) (xs ys : List ℕ) → length xs ≡ 4 * n → symbols_of (xs ++ ys) ≡ symbols_of xs ++ symbols_of ys
symbols-append n [] ys h = refl
symbols-append n (a ∷ []) ys h = absurd (omega arith)
symbols-append n (a ∷ b ∷ []) ys h = absurd (omega arith)
symbols-append n (a ∷ b ∷ c ∷ []) ys h = absurd (omega arith)
symbols-append n (a ∷ b ∷ c ∷ d ∷ xs) ys h = ap (λ l. symbol_of a b c d ∷ l) (symbols-append (n - 1) xs ys (omega arith))

pub length-symbols : (n : ℕ) (xs : List ℕ) → length xs ≡ 4 * n → length (symbols_of xs) ≡ n
length-symbols n [] h = omega arith
length-symbols n (a ∷ []) h = absurd (omega arith)
length-symbols n (a ∷ b ∷ []) h = absurd (omega arith)
length-symbols n (a ∷ b ∷ c ∷ []) h = absurd (omega arith)
length-symbols n (a ∷ b ∷ c ∷ d ∷ xs) h = omega (arith, length-symbols (n - 1) xs (omega arith))

-- one symbol more
pub symbols_more : (bytes : List ℕ) (i : ℕ) → 4 * i + 4 ≤ length bytes
    → symbols_of (take (4 * (i + 1)) bytes) ≡ symbols_of (take (4 * i) bytes) ++ symbol_of (get_or bytes (4 * i) 0) (get_or bytes (4 * i + 1) 0) (get_or bytes (4 * i + 2) 0) (get_or bytes (4 * i + 3) 0) ∷ []
symbols_more bytes i h =
    let n = 4 * i in
    let front = take n bytes in
    let one = take_more bytes n 0 (omega arith) in
    let two = take_more bytes (n + 1) 0 (omega arith) in
    let three = take_more bytes (n + 2) 0 (omega arith) in
    let four = take_more bytes (n + 3) 0 (omega arith) in
    let e1 : (n + 1) + 1 ≡ n + 2 = omega arith in
    let e2 : (n + 2) + 1 ≡ n + 3 = omega arith in
    let e3 : (n + 3) + 1 ≡ 4 * (i + 1) = omega arith in
    let a = get_or bytes n 0 in
    let b = get_or bytes (n + 1) 0 in
    let c = get_or bytes (n + 2) 0 in
    let d = get_or bytes (n + 3) 0 in
    let t2 : take (n + 2) bytes ≡ (front ++ a ∷ []) ++ b ∷ [] = ap (λ m. take m bytes) (sym e1) ∙ two ∙ ap (λ l. l ++ b ∷ []) one in
    let t3 : take (n + 3) bytes ≡ ((front ++ a ∷ []) ++ b ∷ []) ++ c ∷ [] = ap (λ m. take m bytes) (sym e2) ∙ three ∙ ap (λ l. l ++ c ∷ []) t2 in
    let t4 : take (4 * (i + 1)) bytes ≡ (((front ++ a ∷ []) ++ b ∷ []) ++ c ∷ []) ++ d ∷ [] = ap (λ m. take m bytes) (sym e3) ∙ four ∙ ap (λ l. l ++ d ∷ []) t3 in
    let t5 : take (4 * (i + 1)) bytes ≡ front ++ (a ∷ b ∷ c ∷ d ∷ []) = t4 ∙ simp append_assoc in
    ap symbols_of t5 ∙ symbols-append i front (a ∷ b ∷ c ∷ d ∷ []) (length-take-le n bytes (omega arith))

-- one symbol more is turned
pub turned_more : (symbols : List Symbol) (bytes : List ℕ) (i : ℕ) (s : Symbol) → i < length symbols → 4 * i + 4 ≤ length bytes → take i symbols ≡ symbols_of (take (4 * i) bytes)
    → s ≡ symbol_of (get_or bytes (4 * i) 0) (get_or bytes (4 * i + 1) 0) (get_or bytes (4 * i + 2) 0) (get_or bytes (4 * i + 3) 0)
    → take (i + 1) (set symbols i s) ≡ symbols_of (take (4 * (i + 1)) bytes)
turned_more symbols bytes i s h k front is =
    take_more_set symbols i s h ∙ ap (λ l. l ++ s ∷ []) front ∙ ap (λ x. symbols_of (take (4 * i) bytes) ++ x ∷ []) is ∙ sym (symbols_more bytes i k)
