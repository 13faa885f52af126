-- The generator of a mode's BCH code begins with 1, and has as many more bits as a word has behind its message.
use Rattle.std.proofs.Common.{◌≡◌, ℕ, zero, suc, ◌+◌, ◌*◌, ◌/◌, ◌%◌, ◌^◌, ◌≤◌, Bool, true, false, List, [], ◌∷◌, length, take, drop, map, refl, sym, ap, ap₂, subst, ◌∙◌, arith}
use Rattle.std.specs.Prelude.{◌==◌, ◌&&◌}
use Rattle.s2_mode.specs.Mode.{Mode, HasCodeSizes, kbch_of, k_of, t_of}
use Rattle.s2_bch.specs.Words.{product, times_bit}
use Rattle.s2_bits.specs.Bits.{added, bits_of_number}
use Rattle.s2_bch.proofs.WordFacts.{product-front, length-product}
use Rattle.s2_bch.specs.Generators.{minimal_16, minimal_14, product_of_all, generator_16, generator_14, generator_of}

-- a polynomial of degree n: it begins with 1, and n bits follow
pub record HasDegree (n : ℕ) (g : List Bool) : Type 0 where
  pub begins : g ≡ true ∷ drop 1 g
  pub size : length g ≡ suc n

degree-product : (n k : ℕ) (f g : List Bool) → HasDegree n f → HasDegree k g → HasDegree (n + k) (product f g)
degree-product n k f g F G =
    let q = drop 1 f in
    let t = drop 1 g in
    let is : product f g ≡ true ∷ added (times_bit true t) (product q (true ∷ t)) = ap₂ product F.begins G.begins ∙ product-front true q t in
    record {
      begins = is ∙ ap (λ w. true ∷ w) (sym (ap (drop 1) is));
      size = length-product f g ∙ omega (arith, F.size, G.size);
    }

length-bits_of_number : (n v : ℕ) → length (bits_of_number n v) ≡ n
length-bits_of_number zero v = refl
length-bits_of_number (suc n) v = ap suc (length-bits_of_number n v)

degree-bits_of_number : (n v : ℕ) → (v / 2 ^ n % 2 == 1) ≡ true → HasDegree n (bits_of_number (suc n) v)
degree-bits_of_number n v e = record { begins = ap (λ b. b ∷ bits_of_number n v) e; size = ap suc (length-bits_of_number n v) }

-- each of these numbers has the bit of x^n
abbrev pub all_top : ℕ → List ℕ → Bool
all_top n [] = true
all_top n (v ∷ vs) = (v / 2 ^ n % 2 == 1) && all_top n vs

both : (a b : Bool) → (a && b) ≡ true → (a ≡ true) × (b ≡ true)
both true b e = (refl, e)
both false b e = (e, absurd (cc))

degree-product_of_all : (n t : ℕ) (vs : List ℕ) → all_top n vs ≡ true → t ≤ length vs → HasDegree (n * t) (product_of_all (map (bits_of_number (suc n)) (take t vs)))
degree-product_of_all n zero vs h k = record { begins = refl; size = omega arith }
degree-product_of_all n (suc t) [] h k = absurd (omega arith)
degree-product_of_all n (suc t) (v ∷ vs) h k =
    let parts = both (v / 2 ^ n % 2 == 1) (all_top n vs) h in
    let e : n + n * t ≡ n * suc t = omega arith in
    subst (λ d. HasDegree d (product (bits_of_number (suc n) v) (product_of_all (map (bits_of_number (suc n)) (take t vs))))) e
    (degree-product n (n * t) (bits_of_number (suc n) v) _ (degree-bits_of_number n v parts.0) (degree-product_of_all n t vs parts.1 (omega arith)))

degree-16 : (t : ℕ) → t ≤ 12 → HasDegree (16 * t) (generator_16 t)
unfolding generator_16
degree-16 t few = degree-product_of_all 16 t minimal_16 refl few

degree-14 : (t : ℕ) → t ≤ 12 → HasDegree (14 * t) (generator_14 t)
unfolding generator_14
degree-14 t few = degree-product_of_all 14 t minimal_14 refl few

pub generator_normal : (m : Mode) → m.short ≡ false → generator_of m ≡ generator_16 (t_of m)
unfolding generator_of
generator_normal m e = rw e refl

pub generator_short : (m : Mode) → m.short ≡ true → generator_of m ≡ generator_14 (t_of m)
unfolding generator_of
generator_short m e = rw e refl

-- the parity bits of a word are as many as the generator's degree
pub record HasParityBits (m : Mode) : Type 0 where
  pub degree : ℕ
  pub generator : HasDegree degree (generator_of m)
  pub size : k_of m ≡ kbch_of m + degree

parity_bits_by : (m : Mode) (short : Bool) → m.short ≡ short → HasCodeSizes m → HasParityBits m
parity_bits_by m false e sizes = record {
  degree = 16 * t_of m;
  generator = subst (HasDegree (16 * t_of m)) (sym (generator_normal m e)) (degree-16 (t_of m) sizes.t_most);
  size = sizes.normal_code e;
}
parity_bits_by m true e sizes = record {
  degree = 14 * t_of m;
  generator = subst (HasDegree (14 * t_of m)) (sym (generator_short m e)) (degree-14 (t_of m) sizes.t_most);
  size = sizes.short_code e;
}

pub parity_bits : (m : Mode) → HasCodeSizes m → HasParityBits m
parity_bits m sizes = parity_bits_by m m.short refl sizes
