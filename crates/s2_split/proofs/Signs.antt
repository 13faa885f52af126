-- Which rests are negative, place by place.
use Rattle.std.proofs.Common.{◌≡◌, ◌≢◌, ℕ, ◌+◌, ◌<◌, ◌≤◌, ◌&&◌, ◌↔◌, IsTrue, Bool, true, false, List, get_or, ℤ, pos, ◌≤ℤ◌, int_le, inl, inr, refl, sym, ap₂, subst, arith}
use Rattle.std.proofs.lemmas.Bool.{both_ways, cases_eq, cases_lt}
use Rattle.std.proofs.lemmas.Int.{ints}
use Rattle.s2_split.specs.Kept.{HaveOneSign, NoneIsNegative}

both_left : (a b : Bool) → IsTrue (a && b) → IsTrue a
both_left true b h = refl
both_left false b h = h

both_right : (a b : Bool) → IsTrue (a && b) → IsTrue b
both_right true b h = h
both_right false b h = absurd (both_ways false refl h)

both_pass : (a b : Bool) → IsTrue a → IsTrue b → IsTrue (a && b)
both_pass a b ha hb = ap₂ ◌&&◌ ha hb

passes : (v : ℤ) → pos 0 ≤ℤ v → int_le (pos 0) v ≡ true
passes v h = grind (arith, ints)

passed : (v : ℤ) → int_le (pos 0) v ≡ true → pos 0 ≤ℤ v
passed v h = grind (arith, ints)

-- one bit more is looked at, after a step that changed no other sign
pub none_more : (from e : ℕ) (old new : List ℤ) (b : Bool) (v : ℤ) → v ≡ get_or new e (pos 0) → from ≤ e → ((k : ℕ) → k ≢ e → HaveOneSign (get_or old k (pos 0)) (get_or new k (pos 0))) → (IsTrue b ↔ NoneIsNegative from e old) → IsTrue (b && int_le (pos 0) v) ↔ NoneIsNegative from (e + 1) new
none_more from e old new b v is low same test =
    (to, back)
  where
    to : IsTrue (b && int_le (pos 0) v) → NoneIsNegative from (e + 1) new
    to h k above below = elim (cases_eq k e) [
      | inl here ↦ subst (λ n. pos 0 ≤ℤ get_or new n (pos 0)) (sym here) (subst (λ n. pos 0 ≤ℤ n) is (passed v (both_right b (int_le (pos 0) v) h)))
      | inr other ↦ (same k other).0 (test.0 (both_left b (int_le (pos 0) v) h) k above (omega arith))
    ]

    back : NoneIsNegative from (e + 1) new → IsTrue (b && int_le (pos 0) v)
    back all = both_pass b (int_le (pos 0) v) (test.1 (λ k above below. (same k (λ same'. omega arith)).1 (all k above (omega arith)))) (passes v (subst (λ n. pos 0 ≤ℤ n) (sym is) (all e low (omega arith))))

-- a block more, after a step that changed no sign before it
pub none_joined : (from to : ℕ) (old new : List ℤ) (a b : Bool) → ((k : ℕ) → k < from → HaveOneSign (get_or old k (pos 0)) (get_or new k (pos 0))) → (IsTrue a ↔ NoneIsNegative from to new) → (IsTrue b ↔ NoneIsNegative 0 from old) → from ≤ to → IsTrue (a && b) ↔ NoneIsNegative 0 to new
none_joined from to old new a b same here before rises =
    (on, back)
  where
    on : IsTrue (a && b) → NoneIsNegative 0 to new
    on h k above below = elim (cases_lt k from) [
      | inl low ↦ (same k low).0 (before.0 (both_right a b h) k above low)
      | inr past ↦ here.0 (both_left a b h) k (omega arith) below
    ]

    back : NoneIsNegative 0 to new → IsTrue (a && b)
    back all = both_pass a b (here.1 (λ k above below. all k (omega arith) below)) (before.1 (λ k above below. (same k below).1 (all k above (omega arith))))

-- a block more that has none
pub none_passed : (from to : ℕ) (rests : List ℤ) (b : Bool) → NoneIsNegative from to rests → (IsTrue b ↔ NoneIsNegative 0 from rests) → from ≤ to → IsTrue b ↔ NoneIsNegative 0 to rests
none_passed from to rests b none before rises = (
  λ h k above below. elim (cases_lt k from) [
    | inl low ↦ before.0 h k above low
    | inr past ↦ none k (omega arith) below
  ],
  λ all. before.1 (λ k above below. all k above (omega arith)),
)
