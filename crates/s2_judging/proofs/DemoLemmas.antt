-- What is judged under the toy rows.
use Rattle.std.proofs.Common.{◌≡◌, ℕ, ℤ, List, Option, Some, Result, Ok, refl, subst}
use Rattle.s2_mode.specs.Shape.{Shape}
use Rattle.s2_rows.specs.Rows.{Rows}
use Rattle.s2_check.specs.Verdicts.{is_certified}
use Rattle.s2_check.specs.declared.verdict.Verdict.{Verdict}
use Rattle.s2_check.specs.declared.verdict.Verdict.TheVariants as verdicts
use Rattle.s2_tuning.specs.Limits.{default_rounds}
use Rattle.s2_tuning.specs.Tuning.{Tuning, tuning_of}
use Rattle.s2_judge.specs.Deciding.{decided}
use Rattle.s2_io.specs.declared.printed.Printed.{Printed}
use Rattle.s2_io.specs.declared.exit.Exit.{Exit}
use Rattle.s2_io.specs.declared.fault.Fault.{Fault}
use Rattle.s2_io.specs.Exits.{CommandAnswers, CommandRuns}
use Rattle.s2_judging.specs.Inputs.{AreInputs, IsOnly}
use Rattle.s2_judging.specs.Judging.{own_verdict, SaysOwn, IsOwn}

-- the same rows by other names
pub at_rows : (known_soft : Option (List ℕ)) (ended : Result Exit Fault) (old new : Option (List ℕ)) (shape shape' : Shape) (xs xs' : List ℕ) → shape ≡ shape' → xs ≡ xs'
    → CommandRuns IsOwn (AreInputs shape (Some xs) known_soft) ended old new → CommandRuns IsOwn (AreInputs shape' (Some xs') known_soft) ended old new
at_rows known_soft ended old new shape shape' xs xs' p q h =
    let Q : Shape → Type 0 = λ s. CommandRuns IsOwn (AreInputs s (Some xs) known_soft) ended old new in
    let R : List ℕ → Type 0 = λ x. CommandRuns IsOwn (AreInputs shape' (Some x) known_soft) ended old new in
    subst R q (subst Q p h)

-- ---- the verdict that is told

pub own_certified : (v : Verdict) → is_certified (own_verdict v) ≡ is_certified v
own_certified verdicts.Sole = refl
own_certified verdicts.MostLikely = refl
own_certified verdicts.Parity = refl
own_certified verdicts.Broken = refl

pub never_sole : (v : Verdict) → own_verdict v ≡ verdicts.Sole → ⊥
never_sole verdicts.Sole e = cc
never_sole verdicts.MostLikely e = cc
never_sole verdicts.Parity e = cc
never_sole verdicts.Broken e = cc

pub own_broken : (v : Verdict) → own_verdict v ≡ verdicts.Broken → v ≡ verdicts.Broken
own_broken verdicts.Sole e = cc
own_broken verdicts.MostLikely e = cc
own_broken verdicts.Parity e = cc
own_broken verdicts.Broken e = refl

-- a judge that tries as much as the program without arguments answers
pub own_answers : (rows : Rows) (tuning : Tuning) (soft : List ℤ) (p : Printed) → tuning ≡ tuning_of default_rounds 0 → SaysOwn (decided rows tuning soft) rows soft p.exit p.text → CommandAnswers IsOwn (IsOnly (rows, soft)) (Ok p)
own_answers rows tuning soft p same said =
    ((rows, soft), refl, subst (λ (t : Tuning). SaysOwn (decided rows t soft) rows soft p.exit p.text) same said)
