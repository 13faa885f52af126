-- The steps of the loop that finds the shortest locator, over plain variables.
use Rattle.std.specs.Prelude.{ℕ, suc, ◌≡◌, ◌≢◌, ◌+◌, ◌-◌, ◌<◌, ◌≤◌, refl, List, [], ◌∷◌, length, take, set}
use Rattle.std.proofs.Common.{sym, ◌∙◌, ap, ap₂, arith, subst, add-one}
use Rattle.s2_field.specs.Operations.{Operations}
use Rattle.s2_field.specs.Laws.{FieldLaws}
use Rattle.s2_bch.specs.Sequences as S
use Rattle.s2_bch.proofs.LocatorTheory.{shortest-start, shortest-same, shortest-mend, shortest-grow}

module _ {F : Type 0} (field : Operations F) (L : FieldLaws field) where
  abbrev Is : ℕ → ℕ → List F → List F → F → (ℕ → F) → Type 0
  Is = S.Shortest field

  abbrev at : List F → (ℕ → F) → ℕ → F
  at = S.discrepancies field

  -- along equations
  pub moved : (n n' d d' : ℕ) (f f' b b' : List F) (delta delta' : F) (s : ℕ → F) → n ≡ n' → d ≡ d' → f ≡ f' → b ≡ b' → delta ≡ delta'
      → S.Shortest field n d f b delta s → S.Shortest field n' d' f' b' delta' s
  moved n n' d d' f f' b b' delta delta' s en ed ef eb ex h =
      subst (λ x. Is n' d' f' b' x s) ex
      (subst (λ x. Is n' d' f' x delta s) eb
      (subst (λ x. Is n' d' x b delta s) ef
      (subst (λ x. Is n' x f b delta s) ed
      (subst (λ x. Is x d f b delta s) en h))))

  pub start : (f b : List F) (delta : F) (s : ℕ → F) → f ≡ field.one ∷ [] → b ≡ [] → delta ≡ field.one → S.Shortest field 0 0 f b delta s
  start f b delta s e h x = moved 0 0 0 0 (field.one ∷ []) f [] b field.one delta s refl refl (sym e) (sym h) (sym x) (shortest-start field L s)

  pub same_step : (n d : ℕ) (f b : List F) (delta wrong : F) (s : ℕ → F) → S.Shortest field n d f b delta s
      → wrong ≡ S.discrepancies field f s (n - d) → wrong ≡ field.zero → S.Shortest field (n + 1) d f b delta s
  same_step n d f b delta wrong s h e z =
      moved (suc n) (n + 1) d d f f b b delta delta s (sym (add-one n)) refl refl refl refl
      (shortest-same field L n d f b delta s h (sym e ∙ z))

  pub mend_step : (n d l : ℕ) (f b g : List F) (delta wrong a : F) (s : ℕ → F) → S.Shortest field n d f b delta s
      → n < d + d → wrong ≡ S.discrepancies field f s (n - d) → a ≡ field.product wrong (field.inverse delta) → l ≡ d + d - suc n
      → g ≡ S.plus field (S.shift field 0 f) (S.scale field a (S.shift field l b))
      → S.Shortest field (n + 1) d g b delta s
  mend_step n d l f b g delta wrong a s h big e ea el eg =
      moved (suc n) (n + 1) d d
      (S.plus field f (S.scale field (field.product (S.discrepancies field f s (n - d)) (field.inverse delta)) (S.shift field (d + d - suc n) b)))
      g b b delta delta s (sym (add-one n)) refl
      (sym (eg ∙ ap₂ (λ x k. S.plus field f (S.scale field x (S.shift field k b)))
      (ea ∙ ap (λ x. field.product x (field.inverse delta)) e) el))
      refl refl (shortest-mend field L n d f b delta s h big)

  pub grow_step : (n d k e : ℕ) (f b g h : List F) (delta wrong a : F) (s : ℕ → F) → S.Shortest field n d f b delta s
      → d + d ≤ n → wrong ≡ S.discrepancies field f s (n - d) → wrong ≢ field.zero → a ≡ field.product wrong (field.inverse delta)
      → k ≡ suc n - (d + d) → e ≡ suc n - d
      → g ≡ S.plus field (S.shift field k f) (S.scale field a (S.shift field 0 b)) → h ≡ f
      → S.Shortest field (n + 1) e g h wrong s
  grow_step n d k e f b g h delta wrong a s H small ew nw ea ek ee eg eh =
      moved (suc n) (n + 1) (suc n - d) e
      (S.plus field (S.shift field (suc n - (d + d)) f) (S.scale field (field.product (S.discrepancies field f s (n - d)) (field.inverse delta)) b))
      g f h (S.discrepancies field f s (n - d)) wrong s (sym (add-one n)) (sym ee)
      (sym (eg ∙ ap₂ (λ x k. S.plus field (S.shift field k f) (S.scale field x b))
      (ea ∙ ap (λ x. field.product x (field.inverse delta)) ew) ek))
      (sym eh) (sym ew)
      (shortest-grow field L n d f b delta s H (λ z. nw (ew ∙ z)) small)

pub front_of_set : {F : Type 0} (xs : List F) (x : F) → 0 < length xs → take 1 (set xs 0 x) ≡ x ∷ []
front_of_set [] x h = absurd (omega arith)
front_of_set (y ∷ ys) x h = refl
