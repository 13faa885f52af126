-- Vectors of eight bits, and planes that are written lane by lane.
use Rattle.std.proofs.Common.{◌≡◌, ℕ, zero, suc, ◌+◌, ◌-◌, ◌*◌, ◌/◌, ◌%◌, ◌<◌, ◌≤◌, Bool, true, false, not, eqb, bit_xor, List, [], ◌∷◌, ◌++◌, length, set, length-set, get_or-set_same, get_or-set_other, inl, inr, refl, sym, ap, ap₂, subst, ◌∙◌, arith}
use Rattle.std.proofs.lemmas.Bool.{cases_eq}
use Rattle.std.proofs.lemmas.Nat.{div-mul-add}
use Rattle.std.proofs.Math.Nat.{div-add-mod}
use lib.Lanes.{zip2}
use Rattle.s2_bits.specs.Bits.{xor, bit_at, number}
use Rattle.s2_bits.specs.Lanes.{eight}
use Rattle.s2_bits.proofs.Sums.{xor_assoc}
use Rattle.s2_matrix.specs.Sums.{sum_of}
use Rattle.s2_matrix.specs.Planes.{plane_place}
use Rattle.s2_matrix.specs.Transpose.{eight_rows, carry_at, accumulated, Fills, FillsEight}
use Rattle.s2_matrix.proofs.Sums.{sum_of-same, sum_of-add}
use Rattle.s2_matrix.proofs.Joins.{div_below}
use Rattle.s2_matrix.proofs.Lanes.{lane_place, lane_sum}

-- ---- vectors of eight bits

pub eight-same : (f g : ℕ → Bool) → ((k : ℕ) → k < 8 → f k ≡ g k) → eight f ≡ eight g
eight-same f g same =
    let a = same 0 (omega arith) in
    let b = same 1 (omega arith) in
    let c = same 2 (omega arith) in
    let d = same 3 (omega arith) in
    let e = same 4 (omega arith) in
    let h = same 5 (omega arith) in
    let i = same 6 (omega arith) in
    let j = same 7 (omega arith) in
    λ t. number (a t) ∷ number (b t) ∷ number (c t) ∷ number (d t) ∷ number (e t) ∷ number (h t) ∷ number (i t) ∷ number (j t) ∷ []

pub rows-same : (f g : ℕ → ℕ → Bool) → ((l r : ℕ) → l < 8 → r < 8 → f l r ≡ g l r) → eight_rows f ≡ eight_rows g
rows-same f g same =
    let a = eight-same (f 0) (g 0) (λ r. same 0 r (omega arith)) in
    let b = eight-same (f 1) (g 1) (λ r. same 1 r (omega arith)) in
    let c = eight-same (f 2) (g 2) (λ r. same 2 r (omega arith)) in
    let d = eight-same (f 3) (g 3) (λ r. same 3 r (omega arith)) in
    let e = eight-same (f 4) (g 4) (λ r. same 4 r (omega arith)) in
    let h = eight-same (f 5) (g 5) (λ r. same 5 r (omega arith)) in
    let i = eight-same (f 6) (g 6) (λ r. same 6 r (omega arith)) in
    let j = eight-same (f 7) (g 7) (λ r. same 7 r (omega arith)) in
    λ t. a t ++ b t ++ c t ++ d t ++ e t ++ h t ++ i t ++ j t

bit_sum : (a b : Bool) → bit_xor (number a) (number b) ≡ number (xor a b)
bit_sum true true = refl
bit_sum true false = refl
bit_sum false true = refl
bit_sum false false = refl

eight-sum : (f g : ℕ → Bool) → zip2 bit_xor (eight f) (eight g) ≡ eight (λ k. xor (f k) (g k))
eight-sum f g =
    λ t. bit_sum (f 0) (g 0) t ∷ bit_sum (f 1) (g 1) t ∷ bit_sum (f 2) (g 2) t ∷ bit_sum (f 3) (g 3) t ∷ bit_sum (f 4) (g 4) t ∷ bit_sum (f 5) (g 5) t ∷ bit_sum (f 6) (g 6) t ∷ bit_sum (f 7) (g 7) t ∷ []

pub rows-sum : (f g : ℕ → ℕ → Bool) → zip2 bit_xor (eight_rows f) (eight_rows g) ≡ eight_rows (λ l r. xor (f l r) (g l r))
rows-sum f g =
    λ t. eight-sum (f 0) (g 0) t ++ eight-sum (f 1) (g 1) t ++ eight-sum (f 2) (g 2) t ++ eight-sum (f 3) (g 3) t
    ++ eight-sum (f 4) (g 4) t ++ eight-sum (f 5) (g 5) t ++ eight-sum (f 6) (g 6) t ++ eight-sum (f 7) (g 7) t

-- a bit as a program tells it from its number
pub bit_test : (b : Bool) → not (eqb (number b) 0) ≡ b
bit_test true = refl
bit_test false = refl

-- a fact of eight lanes, lane by lane
pub by_eight : (P : ℕ → Type 0) → P 0 → P 1 → P 2 → P 3 → P 4 → P 5 → P 6 → P 7 → (k : ℕ) → k < 8 → P k
by_eight P a b c d e f g h zero lt = a
by_eight P a b c d e f g h (suc zero) lt = b
by_eight P a b c d e f g h (suc (suc zero)) lt = c
by_eight P a b c d e f g h (suc (suc (suc zero))) lt = d
by_eight P a b c d e f g h (suc (suc (suc (suc zero)))) lt = e
by_eight P a b c d e f g h (suc (suc (suc (suc (suc zero))))) lt = f
by_eight P a b c d e f g h (suc (suc (suc (suc (suc (suc zero)))))) lt = g
by_eight P a b c d e f g h (suc (suc (suc (suc (suc (suc (suc zero))))))) lt = h
by_eight P a b c d e f g h (suc (suc (suc (suc (suc (suc (suc (suc k)))))))) lt = absurd (omega (arith, lt))

-- ---- bits that are written one after another

pub fills_first : (f : ℕ → Bool) (at : ℕ) (old : List Bool) (v : Bool) → at < length old → v ≡ f at → Fills f at 1 old (set old at v)
fills_first f at old v low is = record {
  long = length-set old at v;
  here = λ k from to. (
      let same : k ≡ at = omega (arith, from, to) in
      ap (bit_at (set old at v)) same ∙ get_or-set_same old at v false low ∙ is ∙ ap f (sym same)
      );
  kept = λ k right. elim (cases_eq k at) [
    | inl same ↦ ap (bit_at (set old at v)) same ∙ get_or-set_same old at v false low ∙ is ∙ ap f (sym same)
    | inr other ↦ get_or-set_other old at k v false other ∙ right
  ];
}

pub fills_more : (f : ℕ → Bool) (at n : ℕ) (old now : List Bool) (v : Bool) → at + n < length old → v ≡ f (at + n) → Fills f at n old now → Fills f at (n + 1) old (set now (at + n) v)
fills_more f at n old now v low is so_far =
    let inside : at + n < length now = omega (arith, low, so_far.long) in
    let here = get_or-set_same now (at + n) v false inside ∙ is in
    record {
      long = length-set now (at + n) v ∙ so_far.long;
      here = λ k from to. elim (cases_eq k (at + n)) [
        | inl same ↦ ap (bit_at (set now (at + n) v)) same ∙ here ∙ ap f (sym same)
        | inr other ↦ get_or-set_other now (at + n) k v false other ∙ so_far.here k from (omega (arith, to, other))
      ];
      kept = λ k right. elim (cases_eq k (at + n)) [
        | inl same ↦ ap (bit_at (set now (at + n) v)) same ∙ here ∙ ap f (sym same)
        | inr other ↦ get_or-set_other now (at + n) k v false other ∙ so_far.kept k right
      ];
    }

pub eight_pieces : (f : ℕ → Bool) (at q : ℕ) (z a b c d e h i j : List Bool)
    → Fills f at 8 z a
    → Fills f (at + q) 8 a b
    → Fills f (at + 2 * q) 8 b c
    → Fills f (at + 3 * q) 8 c d
    → Fills f (at + 4 * q) 8 d e
    → Fills f (at + 5 * q) 8 e h
    → Fills f (at + 6 * q) 8 h i
    → Fills f (at + 7 * q) 8 i j
    → FillsEight f at 8 q z j
eight_pieces f at q z a b c d e h i j fa fb fc fd fe fh fi fj = record {
  long = fj.long ∙ fi.long ∙ fh.long ∙ fe.long ∙ fd.long ∙ fc.long ∙ fb.long ∙ fa.long;
  here = λ l r low short. by_eight (λ l. bit_at j (at + l * q + r) ≡ f (at + l * q + r))
      (fj.kept _ (fi.kept _ (fh.kept _ (fe.kept _ (fd.kept _ (fc.kept _ (fb.kept _ (fa.here (at + 0 * q + r) (omega arith) (omega (arith, short))))))))))
      (fj.kept _ (fi.kept _ (fh.kept _ (fe.kept _ (fd.kept _ (fc.kept _ (fb.here (at + 1 * q + r) (omega arith) (omega (arith, short)))))))))
      (fj.kept _ (fi.kept _ (fh.kept _ (fe.kept _ (fd.kept _ (fc.here (at + 2 * q + r) (omega arith) (omega (arith, short))))))))
      (fj.kept _ (fi.kept _ (fh.kept _ (fe.kept _ (fd.here (at + 3 * q + r) (omega arith) (omega (arith, short)))))))
      (fj.kept _ (fi.kept _ (fh.kept _ (fe.here (at + 4 * q + r) (omega arith) (omega (arith, short))))))
      (fj.kept _ (fi.kept _ (fh.here (at + 5 * q + r) (omega arith) (omega (arith, short)))))
      (fj.kept _ (fi.here (at + 6 * q + r) (omega arith) (omega (arith, short))))
      (fj.here (at + 7 * q + r) (omega arith) (omega (arith, short)))
      l low;
  kept = λ k right. fj.kept k (fi.kept k (fh.kept k (fe.kept k (fd.kept k (fc.kept k (fb.kept k (fa.kept k right)))))));
}

-- ---- what lanes add

-- one lane more
pub carry_more : (first c t : Bool) (g : ℕ → Bool) (k : ℕ) → c ≡ xor first (sum_of g k) → t ≡ g k → xor c t ≡ xor first (sum_of g (suc k))
carry_more first c t g k is bit = ap₂ xor is bit ∙ xor_assoc first (sum_of g k) (g k)

-- the lanes after a lane
pub carry_after : (group q : ℕ) (planes : List Bool) (lane l : ℕ) (first : Bool) → first ≡ carry_at group q planes lane
    → xor first (sum_of (λ i. bit_at planes ((q - 1) * group + lane + i)) l) ≡ carry_at group q planes (lane + l)
carry_after group q planes lane l first is =
    let g = λ (i : ℕ). bit_at planes ((q - 1) * group + i) in
    let own = λ (i : ℕ). bit_at planes ((q - 1) * group + lane + i) in
    ap (λ b. xor b (sum_of own l)) is
    ∙ ap (xor (sum_of g lane)) (sum_of-same own (λ i. g (lane + i)) l (λ i h. (let place : (q - 1) * group + lane + i ≡ (q - 1) * group + (lane + i) = omega arith in ap (bit_at planes) place)))
    ∙ sym (sum_of-add g lane l)

pub accumulated_at : (group q : ℕ) (planes : List Bool) (lane r : ℕ) → r < q → accumulated group q planes (lane * q + r) ≡ xor (carry_at group q planes lane) (bit_at planes (r * group + lane))
accumulated_at group q planes lane r low =
    ap₂ xor (ap (carry_at group q planes) (div-mul-add lane q r low)) (ap (bit_at planes) (lane_place group q lane r low))

-- a bit of a block
pub transposed_place : (group q : ℕ) (planes : List Bool) (lane plane l r : ℕ) → plane + r < q
    → xor (carry_at group q planes (lane + l)) (bit_at planes (plane * group + lane + r * group + l)) ≡ accumulated group q planes (lane * q + plane + l * q + r)
transposed_place group q planes lane plane l r low =
    let place : plane * group + lane + r * group + l ≡ (plane + r) * group + (lane + l) = omega arith in
    let index : (lane + l) * q + (plane + r) ≡ lane * q + plane + l * q + r = omega arith in
    ap (λ k. xor (carry_at group q planes (lane + l)) (bit_at planes k)) place
    ∙ sym (accumulated_at group q planes (lane + l) (plane + r) low)
    ∙ ap (accumulated group q planes) index

-- the lane after a lane adds the last check of that lane
pub carry_next : (group q : ℕ) (planes : List Bool) (lane : ℕ) → 1 ≤ q → accumulated group q planes (lane * q + (q - 1)) ≡ carry_at group q planes (lane + 1)
carry_next group q planes lane some =
    let low : q - 1 < q = omega (arith, some) in
    let one : suc lane ≡ lane + 1 = omega arith in
    accumulated_at group q planes lane (q - 1) low ∙ ap (carry_at group q planes) one

-- each check stands in a lane and a plane
pub by_lanes : (group q : ℕ) (P : ℕ → Type 0) → 1 ≤ q → ((lane r : ℕ) → lane < group → r < q → P (lane * q + r)) → (j : ℕ) → j < group * q → P j
by_lanes group q P some holds j low =
    let whole : q * (j / q) + j % q ≡ j = div-add-mod j q in
    let place : j / q * q + j % q ≡ j = omega (arith, whole) in
    subst P place (holds (j / q) (j % q) (div_below j q group some (omega (arith, low))) (omega (arith, some)))

-- planes that hold sums within each lane give the sums of all checks up to each
pub all_added : (group q : ℕ) (old now : List Bool) → 1 ≤ q
    → ((r c : ℕ) → r < q → c < group → bit_at now (r * group + c) ≡ sum_of (λ i. bit_at old (i * group + c)) (r + 1))
    → (j : ℕ) → j < group * q → accumulated group q now j ≡ sum_of (λ i. bit_at old (plane_place group q i)) (j + 1)
all_added group q old now some sums =
    by_lanes group q (λ j. accumulated group q now j ≡ sum_of (λ i. bit_at old (plane_place group q i)) (j + 1)) some (λ lane r inside low. (
    let next : lane * q + (r + 1) ≡ lane * q + r + 1 = omega arith in
    accumulated_at group q now lane r low
    ∙ ap₂ xor (carries lane (omega (arith, inside))) (sums r lane low inside)
    ∙ lane_sum group q lane r old low
    ∙ ap (sum_of (λ i. bit_at old (plane_place group q i))) next
    ))
  where
    carries : (lane : ℕ) → lane ≤ group → carry_at group q now lane ≡ sum_of (λ i. bit_at old (plane_place group q i)) (lane * q)
    carries zero h = let none : 0 ≡ 0 * q = omega arith in ap (sum_of (λ i. bit_at old (plane_place group q i))) none
    carries (suc lane) h =
        let p = q - 1 in
        let low : p < q = omega (arith, some) in
        let all : lane * q + (p + 1) ≡ suc lane * q = omega (arith, some) in
        ap₂ xor (carries lane (omega (arith, h))) (sums p lane low (omega (arith, h)))
        ∙ lane_sum group q lane p old low
        ∙ ap (sum_of (λ i. bit_at old (plane_place group q i))) all
