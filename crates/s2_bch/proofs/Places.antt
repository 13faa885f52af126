-- Words changed place by place.
use Rattle.std.specs.Prelude.{ℕ, zero, suc, ◌≡◌, ◌≢◌, ◌+◌, ◌-◌, ◌*◌, ◌/◌, ◌%◌, ◌<◌, ◌≤◌, refl, Bool, true, false, not, List, [], ◌∷◌, length, set}
use Rattle.std.proofs.Common.{sym, ◌∙◌, ap, subst, arith, get_or, get_or-set_other, get_or-set_same, below_more, inl, inr}
use Rattle.std.proofs.Math.Nat.{mul-le-mul_left, mod-lt, mod-eq_of_lt, mul-add-mod_self_left, mod-add-div, div-lt_iff_lt-mul}
use Rattle.std.proofs.lemmas.List.{length-set}
use Rattle.std.proofs.lemmas.Bool.{cases_lt}
use Rattle.s2_bits.specs.Bits.{xor, number, differences}
use Rattle.s2_field.specs.Operations.{Operations}
use Rattle.s2_field.specs.Polynomials as P
use Rattle.s2_bch.specs.Flips as flips
use Rattle.s2_bch.specs.Flips.{bit_from_end}
use Rattle.s2_bch.proofs.Distances.{distance-cons, distance_self}

-- of a word of n bits
pub from_end : (w : List Bool) (n e : ℕ) → length w ≡ n → bit_from_end w e ≡ get_or w (n - 1 - e) false
from_end w n e size = ap (λ m. get_or w (m - 1 - e) false) size

module _ {F : Type 0} (field : Operations F) (a : F) (f : List F) where
  -- at the place e, counted from the end, the word is flipped where a^e is a root
  pub record IsRightAt (old now : List Bool) (e : ℕ) : Type 0 where
    pub root : P.eval field f (P.pow field a e) ≡ field.zero
        → get_or now (length old - 1 - e) false ≡ xor true (get_or old (length old - 1 - e) false)
    pub other : P.eval field f (P.pow field a e) ≢ field.zero
        → get_or now (length old - 1 - e) false ≡ get_or old (length old - 1 - e) false

  behind_one : (b c : Bool) (w u : List Bool) (e : ℕ) → e < length w → IsRightAt (b ∷ w) (c ∷ u) e → IsRightAt w u e
  behind_one b c w u e h R =
      let up : length (b ∷ w) - 1 - e ≡ suc (length w - 1 - e) = omega arith in
      record {
        root = λ z. subst (λ i. get_or (c ∷ u) i false ≡ xor true (get_or (b ∷ w) i false)) up (R.root z);
        other = λ z. subst (λ i. get_or (c ∷ u) i false ≡ get_or (b ∷ w) i false) up (R.other z);
      }

  pub flips_everywhere : (old now : List Bool) → length now ≡ length old → ((e : ℕ) → e < length old → IsRightAt old now e)
      → flips.FlipsRoots field a f old now
  flips_everywhere [] [] size right = tt
  flips_everywhere [] (c ∷ u) size right = absurd (omega arith)
  flips_everywhere (b ∷ w) [] size right = absurd (omega arith)
  flips_everywhere (b ∷ w) (c ∷ u) size right =
      let first : length (b ∷ w) - 1 - length w ≡ 0 = omega arith in
      let R = right (length w) (omega arith) in (
        (λ z. subst (λ i. get_or (c ∷ u) i false ≡ xor true (get_or (b ∷ w) i false)) first (R.root z)),
        (λ z. subst (λ i. get_or (c ∷ u) i false ≡ get_or (b ∷ w) i false) first (R.other z)),
        flips_everywhere w u (omega arith) (λ e h. behind_one b c w u e h (right e (omega arith))),
      )

turned-number : (x y : Bool) → y ≡ x → number (xor x (not y)) ≡ number (xor x y) + 1
turned-number true true e = refl
turned-number false false e = refl
turned-number true false e = absurd (cc)
turned-number false true e = absurd (cc)

-- a place more in which two words differ
pub distance_turned : (o now : List Bool) (p : ℕ) → length o ≡ length now → p < length now → get_or now p false ≡ get_or o p false
    → differences (length o) o (set now p (not (get_or now p false))) ≡ differences (length o) o now + 1
distance_turned [] now p size h same = absurd (omega arith)
distance_turned (x ∷ o) [] p size h same = absurd (omega arith)
distance_turned (x ∷ o) (y ∷ now) zero size h same =
    omega (arith, turned-number x y same, distance-cons x (not y) o now, distance-cons x y o now)
distance_turned (x ∷ o) (y ∷ now) (suc p) size h same =
    let rest : differences (length o) o (set now p (not (get_or now p false))) ≡ differences (length o) o now + 1 = distance_turned o now p (omega arith) (omega arith) same in
    omega (arith, rest, distance-cons x y o (set now p (not (get_or now p false))), distance-cons x y o now)

not-xor : (b : Bool) → not b ≡ xor true b
not-xor true = refl
not-xor false = refl

-- a lane's place is behind those of the lanes before
apart : (stride step k m : ℕ) → step < stride → k < m → stride * k + step < stride * m + step
apart stride step k m h lt =
    let le : stride * suc k ≤ stride * m = mul-le-mul_left stride lt in
    let e : stride * suc k ≡ stride * k + stride = omega arith in
    omega (arith, le, e, h)

module _ {F : Type 0} (nil : F) (values : List F) (stride step : ℕ) (old : List Bool) where
  -- the first lanes' places are flipped where the value is zero, `count` of them, and all else is as it was
  pub record AreDone (lane count : ℕ) (now : List Bool) : Type 0 where
    pub size : length now ≡ length old
    pub hit : (k : ℕ) → k < lane → stride * k + step < length old → get_or values k nil ≡ nil
        → get_or now (length old - 1 - (stride * k + step)) false ≡ xor true (get_or old (length old - 1 - (stride * k + step)) false)
    pub miss : (k : ℕ) → k < lane → stride * k + step < length old → get_or values k nil ≢ nil
        → get_or now (length old - 1 - (stride * k + step)) false ≡ get_or old (length old - 1 - (stride * k + step)) false
    pub left : (e : ℕ) → e < length old → ((k : ℕ) → k < lane → e ≢ stride * k + step)
        → get_or now (length old - 1 - e) false ≡ get_or old (length old - 1 - e) false
    pub few : count ≤ lane
    pub counted : (o : List Bool) → length o ≡ length old
        → ((k : ℕ) → k < 16 → stride * k + step < length old
        → get_or old (length old - 1 - (stride * k + step)) false ≡ get_or o (length old - 1 - (stride * k + step)) false)
        → differences (length o) o now ≡ differences (length o) o old + count

  pub lanes_start : AreDone 0 0 old
  lanes_start = record {
    size = refl;
    hit = λ k hk. absurd (omega arith);
    miss = λ k hk. absurd (omega arith);
    left = λ e he others. refl;
    few = omega arith;
    counted = λ o eo same. omega arith;
  }

  module _ (lane count : ℕ) (now : List Bool) (D : AreDone lane count now) (fits : step < stride) where
    still : (stride * lane + step < length old)
        → get_or now (length old - 1 - (stride * lane + step)) false ≡ get_or old (length old - 1 - (stride * lane + step)) false
    still h = D.left (stride * lane + step) h (λ k hk e. let a = apart stride step k lane fits hk in omega (arith, a, e))

    -- a lane whose value is not zero, or that has no place any more
    pub lane_kept : (stride * lane + step < length old → get_or values lane nil ≢ nil) → AreDone (lane + 1) count now
    lane_kept other = record {
      size = D.size;
      hit = below_more _ _ D.hit (λ h z. absurd (other h z));
      miss = below_more _ _ D.miss (λ h n. still h);
      left = λ e he others. D.left e he (λ k hk. others k (omega arith));
      few = let few = D.few in omega (arith, few);
      counted = D.counted;
    }

    -- a lane whose value is zero
    pub lane_turned : lane < 16 → stride * lane + step < length old → get_or values lane nil ≡ nil
        → AreDone (lane + 1) (count + 1)
        (set now (length old - 1 - (stride * lane + step)) (not (get_or now (length old - 1 - (stride * lane + step)) false)))
    lane_turned hl h z =
        let p : ℕ = length old - 1 - (stride * lane + step) in
        let size = D.size in
        let here : p < length now = omega (arith, size, h) in
        let was : get_or now p false ≡ get_or old p false = still h in
        record {
          size = length-set now p (not (get_or now p false)) ∙ size;
          hit = below_more _ _
              (λ k hk hh zz.
              let a = apart stride step k lane fits hk in
              let ne : length old - 1 - (stride * k + step) ≢ p = omega (arith, a, h, hh) in
              rw get_or-set_other (D.hit k hk hh zz))
              (λ hh zz. rw get_or-set_same (not-xor (get_or now p false) ∙ ap (xor true) was));
          miss = below_more _ _
              (λ k hk hh n.
              let a = apart stride step k lane fits hk in
              let ne : length old - 1 - (stride * k + step) ≢ p = omega (arith, a, h, hh) in
              rw get_or-set_other (D.miss k hk hh n))
              (λ hh n. absurd (n z));
          left = λ e he others.
              let apart_here : e ≢ stride * lane + step = others lane (omega arith) in
              let ne : length old - 1 - e ≢ p = omega (arith, apart_here, he, h) in
              rw get_or-set_other (D.left e he (λ k hk. others k (omega arith)));
          few = let few = D.few in omega (arith, few);
          counted = λ o eo same.
              let turned = distance_turned o now p (omega (arith, eo, size)) here (was ∙ same lane hl h) in
              let before = D.counted o eo same in
              omega (arith, turned, before);
        }

module _ {F : Type 0} (field : Operations F) (a : F) (f : List F) (stride : ℕ) (old : List Bool) where
  -- the lanes' first places are searched, and `count` of them flipped
  pub record AreSearched (steps count : ℕ) (now : List Bool) : Type 0 where
    pub size : length now ≡ length old
    pub right : (e : ℕ) → e < length old → e % stride < steps → IsRightAt field a f old now e
    pub left : (e : ℕ) → e < length old → steps ≤ e % stride → get_or now (length old - 1 - e) false ≡ get_or old (length old - 1 - e) false
    pub counted : count ≡ differences (length old) old now

  pub search_start : AreSearched 0 0 old
  search_start = record {
    size = refl;
    right = λ e he lt. absurd (omega arith);
    left = λ e he le. refl;
    counted = sym (distance_self old);
  }

  pub search_end : (steps count : ℕ) (now : List Bool) → 0 < stride → stride ≤ steps → AreSearched steps count now
      → flips.FlipsRoots field a f old now
  search_end steps count now positive all D =
      flips_everywhere field a f old now D.size
      (λ e he. let lt : e % stride < stride = mod-lt e positive in D.right e he (omega (arith, lt, all)))

  module _ (step count : ℕ) (now : List Bool) (D : AreSearched step count now) (values : List F)
      (are : (l : ℕ) → l < 16 → get_or values l field.zero ≡ P.eval field f (P.pow field a (stride * l + step)))
      (fits : step < stride) (reach : length old < 16 * stride) where
    -- a place of this step: its lane, and the value there
    lane-fits : (e : ℕ) → e < length old → e / stride < 16
    lane-fits e he = let positive : 0 < stride = omega (arith, fits) in (div-lt_iff_lt-mul positive).1 (omega (arith, he, reach))

    again : (e : ℕ) → e % stride ≡ step → stride * (e / stride) + step ≡ e
    again e here = let m = mod-add-div e stride in omega (arith, m, here)

    value : (e : ℕ) → e < length old → e % stride ≡ step → get_or values (e / stride) field.zero ≡ P.eval field f (P.pow field a e)
    value e he here =
        are (e / stride) (lane-fits e he) ∙ ap (λ n. P.eval field f (P.pow field a n)) (again e here)

    -- a step without a root
    pub step_kept : ((l : ℕ) → l < 16 → get_or values l field.zero ≢ field.zero) → AreSearched (step + 1) count now
    step_kept none = record {
      size = D.size;
      right = λ e he lt.
          elim (cases_lt (e % stride) step) [
            | inl before ↦ D.right e he before
            | inr behind ↦
                let here : e % stride ≡ step = omega (arith, behind, lt) in
                record {
                  root = λ z. absurd (none (e / stride) (lane-fits e he) (value e he here ∙ z));
                  other = λ n. D.left e he (omega (arith, here));
                }
          ];
      left = λ e he le. D.left e he (omega (arith, le));
      counted = D.counted;
    }

    -- a step that flips the lanes' roots
    pub step_turned : (next : List Bool) (more : ℕ) → length next ≡ length now
        → ((l : ℕ) → l < 16 → stride * l + step < length now → get_or values l field.zero ≡ field.zero
        → bit_from_end next (stride * l + step) ≡ xor true (bit_from_end now (stride * l + step)))
        → ((l : ℕ) → l < 16 → stride * l + step < length now → get_or values l field.zero ≢ field.zero
        → bit_from_end next (stride * l + step) ≡ bit_from_end now (stride * l + step))
        → ((e : ℕ) → e < length now → e % stride ≢ step → bit_from_end next e ≡ bit_from_end now e)
        → differences (length old) old next ≡ differences (length old) old now + more
        → AreSearched (step + 1) (count + more) next
    step_turned next more long hit miss others further = record {
      size = long ∙ D.size;
      right = λ e he lt.
          elim (cases_lt (e % stride) step) [
            | inl before ↦
                let kept = other_place e he (omega (arith, before)) in
                let R = D.right e he before in
                record { root = λ z. kept ∙ R.root z; other = λ n. kept ∙ R.other n }
            | inr behind ↦
                let here : e % stride ≡ step = omega (arith, behind, lt) in
                let was = D.left e he (omega (arith, here)) in
                record {
                  root = λ z. turned e he here (value e he here ∙ z) ∙ ap (xor true) was;
                  other = λ n. same e he here (λ z. n (sym (value e he here) ∙ z)) ∙ was;
                }
          ];
      left = λ e he le. other_place e he (omega (arith, le)) ∙ D.left e he (omega (arith, le));
      counted = let before = D.counted in omega (arith, further, before);
    }
      where
        size : length now ≡ length old
        size = D.size

        next_bit : (e : ℕ) → get_or next (length old - 1 - e) false ≡ bit_from_end next e
        next_bit e = sym (from_end next (length old) e (long ∙ size))

        now_bit : (e : ℕ) → bit_from_end now e ≡ get_or now (length old - 1 - e) false
        now_bit e = from_end now (length old) e size

        other_place : (e : ℕ) → e < length old → e % stride ≢ step → get_or next (length old - 1 - e) false ≡ get_or now (length old - 1 - e) false
        other_place e he ne = next_bit e ∙ others e (omega (arith, size, he)) ne ∙ now_bit e

        turned : (e : ℕ) → e < length old → e % stride ≡ step → get_or values (e / stride) field.zero ≡ field.zero
            → get_or next (length old - 1 - e) false ≡ xor true (get_or now (length old - 1 - e) false)
        turned e he here z =
            let at = again e here in
            next_bit e
            ∙ subst (λ i. bit_from_end next i ≡ xor true (bit_from_end now i)) at (hit (e / stride) (lane-fits e he) (omega (arith, at, size, he)) z)
            ∙ ap (xor true) (now_bit e)

        same : (e : ℕ) → e < length old → e % stride ≡ step → get_or values (e / stride) field.zero ≢ field.zero
            → get_or next (length old - 1 - e) false ≡ get_or now (length old - 1 - e) false
        same e he here n =
            let at = again e here in
            next_bit e
            ∙ subst (λ i. bit_from_end next i ≡ bit_from_end now i) at (miss (e / stride) (lane-fits e he) (omega (arith, at, size, he)) n)
            ∙ now_bit e

    -- the lanes' places are as they were before the search
    pub lanes_left : (l : ℕ) → l < 16 → stride * l + step < length now → bit_from_end now (stride * l + step) ≡ bit_from_end old (stride * l + step)
    lanes_left l hl h =
        let size : length now ≡ length old = D.size in
        let here : (stride * l + step) % stride ≡ step = mul-add-mod_self_left stride l step ∙ mod-eq_of_lt fits in
        from_end now (length old) (stride * l + step) size
        ∙ D.left (stride * l + step) (omega (arith, size, h)) (omega (arith, here))
