-- What is settled is a strict certificate.
use Rattle.std.proofs.Common.{◌≡◌, ◌↔◌, IsTrue, Bool, true, false, not, ◌&&◌, cond, List, ℤ, pos, ◌≤ℤ◌, ◌*ℤ◌, int_lt, Option, None, Some, refl, sym, ap, subst, ◌∙◌, inl, inr, arith}
use Rattle.std.proofs.lemmas.Bool.{cases_Bool, both_ways}
use Rattle.std.proofs.lemmas.Int.{ints}
use Rattle.s2_rows.specs.Rows.{Rows}
use Rattle.s2_matrix.specs.Code.{code_of, IsCodeword}
use Rattle.s2_check.specs.Cost.{cost}
use Rattle.s2_check.specs.Split.{bound}
use Rattle.s2_check.specs.Views.{View}
use Rattle.s2_check.specs.Moves.{Move, placed_of}
use Rattle.s2_check.specs.Checking.{IsCertificate, split_in}
use Rattle.s2_check.specs.Strict.{IsStrict}
use Rattle.s2_check.proofs.Duality.{bound-le-cost}
use Rattle.s2_check.proofs.Listing.{length-all_shares}
use Rattle.s2_settle.specs.Plain.{settling_scale, State}
use Rattle.s2_settle.specs.Settled.{settled, ended, view_in, moves_in, moved_view, reaches, is_strict, if_strict}
use Rattle.s2_settle.specs.Laws.{SettledLaw}
use Rattle.s2_settle.proofs.StrictTests.{strict_test, test_strict}

not_below : (a b : ℤ) → b ≤ℤ a → not (int_lt b a) ≡ true → a ≡ b
not_below a b le h = grind (arith, ints)

same_reaches : (a b : ℤ) → a ≡ b → not (int_lt b a) ≡ true
same_reaches a b h = grind (arith, ints)

first_of : (a b : Bool) → (a && b) ≡ true → a ≡ true
first_of true b e = refl
first_of false b e = e

second_of : (a b : Bool) → (a && b) ≡ true → b ≡ true
second_of true b e = e
second_of false b e = let none : false ≡ true = e in cc

module _ (rows : Rows) (soft : List ℤ) (word : List Bool) (codeword : IsCodeword (code_of rows) word) (ms : List Move) where
  abbrev v : View
  v = moved_view rows soft word ms

  reached : reaches rows v ≡ true → IsCertificate rows v
  reached h = record {
    shaped = record { shape = refl; shares = length-all_shares (code_of rows) (placed_of (code_of rows) word 1 ms) };
    accepted = record {
      scaled = omega arith;
      codeword = codeword;
      tight = not_below (pos settling_scale *ℤ cost soft word) (bound (code_of rows) soft (split_in rows v)) (bound-le-cost (code_of rows) soft (split_in rows v) word codeword) h;
    };
  }

  strict_of : (reaches rows v && is_strict rows v) ≡ true → IsStrict rows v
  strict_of h = record {
    certificate = reached (first_of (reaches rows v) (is_strict rows v) h);
    strict = test_strict rows v (second_of (reaches rows v) (is_strict rows v) h);
  }

  test_of : IsStrict rows v → (reaches rows v && is_strict rows v) ≡ true
  test_of h =
      let one : reaches rows v ≡ true = same_reaches (pos settling_scale *ℤ cost soft word) (bound (code_of rows) soft (split_in rows v)) h.certificate.accepted.tight in
      ap (λ b. b && is_strict rows v) one ∙ strict_test rows v h.strict

  -- the certificate of moves, by the checker's answer
  pub by_answer : (b : Bool) → (IsTrue b ↔ IsStrict rows v) → if_strict rows v ≡ cond b (Some v) None
  by_answer true says = ap (λ b. cond b (Some v) None) (test_of (says.0 refl))
  by_answer false says = elim (cases_Bool (reaches rows v && is_strict rows v)) [
    | inr misses ↦ ap (λ b. cond b (Some v) None) misses
    | inl is ↦ absurd (both_ways false refl (says.1 (strict_of is)))
  ]

  of_moves : (view : View) → if_strict rows v ≡ Some view → IsStrict rows view × (view.soft ≡ soft) × (view.bits ≡ word)
  of_moves view is = go (reaches rows v && is_strict rows v) refl is
    where
      go : (b : Bool) → (reaches rows v && is_strict rows v) ≡ b → cond b (Some v) None ≡ Some view → IsStrict rows view × (view.soft ≡ soft) × (view.bits ≡ word)
      go true h e =
          let same : v ≡ view = cc in
          (subst (IsStrict rows) same (strict_of h), sym (ap (λ (x : View). x.soft) same), sym (ap (λ (x : View). x.bits) same))
      go false h e = cc

pub settled_lem : SettledLaw
unfolding settled
settled_lem rows soft word most view codeword is = go (ended rows soft word most) is
  where
    go : (o : Option State) → view_in rows soft word o ≡ Some view → IsStrict rows view × (view.soft ≡ soft) × (view.bits ≡ word)
    go None e = cc
    go (Some s) e = of_moves rows soft word codeword (moves_in (code_of rows) s) view e
