-- The entries of a list of fields, one after the other.
use Rattle.std.proofs.Common.{◌≡◌, ℕ, ◌+◌, ◌*◌, ◌≤◌, ◌<◌, Bool, true, false, List, [], ◌∷◌, ◌++◌, map, length, get_or, drop, inl, inr, mul-le-mul, refl, sym, ap, ap₂, ◌∙◌, arith}
use Rattle.std.specs.List.{list_all}
use Rattle.std.proofs.lemmas.Bool.{cases_Bool, cases_lt}
use Rattle.std.proofs.lemmas.List.{length-drop, drop-drop}
use Rattle.std.proofs.lemmas.List.FromFn.{length-range_with_len, get_or-range_with_len, length-map-range_with_len, get_or-map-range_with_len, map-range_with_len_more}
use Rattle.std.proofs.lemmas.List.Sums.{AllPass-from_list_all, list_all-from_AllPass}
use Rattle.s2_certfile.specs.Field.{places}
use Rattle.s2_certfile.specs.Field.{many, entry}
use Rattle.s2_certfile.specs.Format.{share}

-- what is left after entry i
pub next_rest : (size i : ℕ) (bytes rest : List ℕ) → rest ≡ drop (i * size) bytes → drop size rest ≡ drop ((i + 1) * size) bytes
next_rest size i bytes rest e =
    let whole : i * size + size ≡ (i + 1) * size = omega arith in
    ap (drop size) e ∙ drop-drop size (i * size) bytes ∙ ap (λ n. drop n bytes) whole

-- there is an entry i
pub entry_there : (size n i : ℕ) (bytes rest : List ℕ) → rest ≡ drop (i * size) bytes → length bytes ≡ n * size → i < n → size ≤ length rest
entry_there size n i bytes rest e long h =
    let more : i + 1 ≤ n = omega arith in
    let same : size ≤ size = omega arith in
    let all : (i + 1) * size ≤ n * size = mul-le-mul more same in
    let split : (i + 1) * size ≡ i * size + size = omega arith in
    omega (arith, all, split, long, ap length e, length-drop (i * size) bytes)

pub all_pass : (test : ℕ → Bool) (n : ℕ) → ((k : ℕ) → k < n → test k ≡ true) → list_all test (places n) ≡ true
all_pass test n h =
    list_all-from_AllPass test (places n) (λ k d less. (
    let short : k < n = omega (arith, length-range_with_len 0 n) in
    let place : get_or (places n) k d ≡ k = omega (arith, get_or-range_with_len 0 n k d short) in
    ap test place ∙ h k short
    ))

pub one_fails : (test : ℕ → Bool) (n i : ℕ) → i < n → test i ≡ false → list_all test (places n) ≡ false
one_fails test n i low fails =
    elim (cases_Bool (list_all test (places n))) [
      | inl all ↦ (
          let long : i < length (places n) = omega (arith, length-range_with_len 0 n) in
          let place : get_or (places n) i 0 ≡ i = omega (arith, get_or-range_with_len 0 n i 0 low) in
          let passes = AllPass-from_list_all test (places n) all i 0 long in
          let clash = sym fails ∙ ap test (sym place) ∙ passes in
          cc clash
          )
      | inr none ↦ none
    ]

pub passes_below : (test : ℕ → Bool) (i : ℕ) → ((k : ℕ) → k < i → test k ≡ true) → test i ≡ true → (k : ℕ) → k < i + 1 → test k ≡ true
passes_below test i h last k low =
    elim (cases_lt k i) [
      | inl less ↦ h k less
      | inr more ↦ (let same : k ≡ i = omega arith in ap test same ∙ last)
    ]

pub pushed_one : {X : Type 0} (f : ℕ → X) (old new : List X) (i : ℕ) (x : X) → old ≡ map f (places i) → new ≡ old ++ x ∷ [] → x ≡ f i → new ≡ map f (places (i + 1))
pushed_one f old new i x inv e same =
    e ∙ ap₂ (λ xs y. xs ++ y ∷ []) inv same ∙ sym (map-range_with_len_more f 0 i i (omega arith))

pub entry_passes : (test : ℕ → Bool) (n i : ℕ) → list_all test (places n) ≡ true → i < n → test i ≡ true
entry_passes test n i all low =
    let long : i < length (places n) = omega (arith, length-range_with_len 0 n) in
    let place : get_or (places n) i 0 ≡ i = omega (arith, get_or-range_with_len 0 n i 0 low) in
    ap test (sym place) ∙ AllPass-from_list_all test (places n) all i 0 long

pub length-listed : {X : Type 0} (f : ℕ → X) (n : ℕ) → length (map f (places n)) ≡ n
length-listed f n = length-map-range_with_len f 0 n

-- a test that nothing fails
pub listed_pass : (n : ℕ) (bytes : List ℕ) → (many n share).test bytes ≡ true
listed_pass n bytes = all_pass (λ k. share.test (entry share.size bytes k)) n (λ k low. refl)

pub listed_at : (f : ℕ → ℕ) (n k : ℕ) → k < n → get_or (map f (places n)) k 0 ≡ f k
listed_at f n k low = get_or-map-range_with_len f 0 n k k 0 low (omega arith)
