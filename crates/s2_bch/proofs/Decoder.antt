-- The decoder's steps, over plain variables.
use Rattle.std.specs.Prelude.{ℕ, suc, ◌≡◌, ◌≢◌, ◌+◌, ◌<◌, ◌≤◌, Bool, List, length, take}
use Rattle.std.proofs.Common.{sym, arith, subst, get_or}
use Rattle.s2_field.specs.Operations.{Operations}
use Rattle.s2_field.specs.Laws.{FieldLaws}
use Rattle.s2_field.specs.Polynomials as P
use Rattle.s2_bits.specs.Bits.{differences}
use Rattle.s2_bch.specs.Sequences as S
use Rattle.s2_bch.specs.Splitting as splitting
use Rattle.s2_bch.specs.Values as V
use Rattle.s2_bch.specs.Flips as flips
use Rattle.s2_bch.specs.Words.{IsMultiple}
use Rattle.s2_bch.proofs.Flipping.{decoded, degree_few, splits}
use Rattle.s2_bch.proofs.SplittingFacts.{order_fixes}

module _ {F : Type 0} (field : Operations F) (L : FieldLaws field) (a : F) (bound t n d : ℕ) (g r v : List Bool) (S' f b : List F) (delta : F)
    (na : a ≢ field.zero) (p : V.AllPowersDiffer field a bound) (hg : 0 < length g) (roots : V.HasRoots field a (t + t) g)
    (en : n ≡ t + t)
    (syndromes : (j : ℕ) → j < n → get_or S' j field.zero ≡ V.value_at field r (P.pow field a (suc j)))
    (H : S.Shortest field n d f b delta (S.sequence_of field.zero S'))
    (mv : IsMultiple g v) (e : length v ≡ length r) (h : length r ≤ bound) (near : differences (length r) r v ≤ t) where
  locates : S.Shortest field (t + t) d f b delta (S.sequence_of field.zero S')
  locates = subst (λ m. S.Shortest field m d f b delta (S.sequence_of field.zero S')) en H

  pub only_word : (w : List Bool) → flips.FlipsRoots field a f r w → w ≡ v
  only_word =
      decoded field L a bound t d g r v S' f b delta na p.differ hg roots.root mv (sym e) (omega arith) near
      (λ j hj. syndromes j (omega arith)) locates

  pub few_places : d ≤ t
  few_places =
      degree_few field L a bound t d g r v S' f b delta na p.differ hg roots.root mv (sym e) (omega arith) near
      (λ j hj. syndromes j (omega arith)) locates

  pub splitting_places : (q : ℕ) → P.HasOrder field a bound → q ≡ bound + 1 → (xs : List F) × splitting.AreItsRoots field q (take d f) xs
  splitting_places q o eq =
      splits field L a bound t d g r v S' f b delta na p.differ hg roots.root mv (sym e) (omega arith) near
      (λ j hj. syndromes j (omega arith)) locates q (order_fixes field L a bound q o eq)
