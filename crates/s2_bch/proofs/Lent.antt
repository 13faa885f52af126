-- What the encoder and the decoder leave in the slice that they were lent.
use Rattle.std.specs.Prelude.{ℕ, ◌≡◌, ◌<◌, ◌≤◌, Bool, true, List, ◌∷◌, length, drop, take, ◌++◌, Option, Some, None, IfSome, IfNone}
use Rattle.std.proofs.Common.{sym, ◌∙◌, ap, subst, arith}
use Rattle.s2_mode.specs.Mode.{Mode, t_of, k_of, kbch_of}
use Rattle.std.specs.List.{refill}
use Rattle.s2_bch.specs.Words.{IsWordOf}
use Rattle.s2_bch.proofs.WordFacts.{take-append}
use Rattle.s2_bits.specs.Bits.{differences}
use Rattle.s2_bch.specs.Codes.{IsBchWord, IsWithin}
use Rattle.s2_bch.specs.Generators.{generator_of}
use Rattle.s2_bch.proofs.GeneratorFacts.{HasGenerator}

pub encoded_word : (m : Mode) (tail message lent old new : List Bool) → HasGenerator m → tail ≡ drop 1 (generator_of m) → lent ≡ message
    → length message ≡ kbch_of m → length old ≡ k_of m → IsWordOf (true ∷ tail) lent new
    → IsWordOf (generator_of m) message (refill (length old) old new) × IsBchWord m (refill (length old) old new)
encoded_word m tail message lent old new made et el lm lo w =
    let g : true ∷ tail ≡ generator_of m = ap (λ u. true ∷ u) et ∙ sym made.begins in
    let size : length old ≡ length new = omega (arith, made.size, ap length et, ap length el, w.size) in
    let same : refill (length old) old new ≡ new = ap (λ n. take n (new ++ drop (length new) old)) size ∙ take-append new _ in
    let is : IsWordOf (generator_of m) message new =
    subst (λ u. IsWordOf (generator_of m) u new) el (subst (λ u. IsWordOf u lent new) g w) in (
      subst (IsWordOf (generator_of m) message) (sym same) is,
      subst (IsBchWord m) (sym same) (record { size = omega (arith, size); multiple = is.multiple }),
    )

pub some_map : {A : Type 0} (o : Option A) (P Q : A → Type 0) → ((a : A) → P a → Q a) → IfSome o P → IfSome o Q
some_map None P Q f h = h
some_map (Some a) P Q f h = f a h

pub none_map : {A : Type 0} (o : Option A) (P Q : Type 0) → (P → Q) → IfNone o P → IfNone o Q
none_map None P Q f h = f h
none_map (Some a) P Q f h = h

refilled : (old lent new : List Bool) → lent ≡ old → length new ≡ length lent → refill (length old) old new ≡ new
refilled old lent new el e =
    let size : length old ≡ length new = omega (arith, ap length el) in
    ap (λ n. take n (new ++ drop (length new) old)) size ∙ take-append new _

pub within_of : (m : Mode) (old lent new : List Bool) (n : ℕ) → lent ≡ old → length new ≡ length lent
    → IsBchWord m new × (n ≡ differences (length lent) lent new) × (n ≤ t_of m)
    → IsWithin m old (refill (length old) old new) × (n ≡ differences (length old) old (refill (length old) old new))
within_of m old lent new n el e h =
    let k : differences (length lent) lent new ≡ differences (length old) old new = ap (λ u. differences (length u) u new) el in
    subst (λ u. IsWithin m old u × (n ≡ differences (length old) old u)) (sym (refilled old lent new el e))
    (record { word = h.0; near = omega (arith, k, h.1, h.2) }, h.1 ∙ k)

pub only_of : (m : Mode) (old lent new : List Bool) → lent ≡ old → length new ≡ length lent → length old ≡ k_of m
    → ((v : List Bool) → IsBchWord m v → differences (length lent) lent v ≤ t_of m → new ≡ v)
    → (v : List Bool) → IsWithin m old v → v ≡ refill (length old) old new
only_of m old lent new el e lo h v w =
    let k : differences (length lent) lent v ≡ differences (length old) old v = ap (λ u. differences (length u) u v) el in
    sym (h v w.word (omega (arith, k, w.near))) ∙ sym (refilled old lent new el e)

pub none_of : (m : Mode) (old lent : List Bool) → lent ≡ old → length old ≡ k_of m
    → ((v : List Bool) → IsBchWord m v → t_of m < differences (length lent) lent v) → (v : List Bool) → IsWithin m old v → ⊥
none_of m old lent el lo h v w =
    let k : differences (length lent) lent v ≡ differences (length old) old v = ap (λ u. differences (length u) u v) el in
    let far = h v w.word in
    omega (arith, k, w.near, far)
