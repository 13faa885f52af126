use Rattle.std.proofs.Common.{◌≡◌, ℕ, ◌+◌, List, [], ◌∷◌, ◌++◌, length, Option, Ok, inr, refl, subst, sym, ap, ◌∙◌, length-append, rules, arith}
use Rattle.std.proofs.lemmas.Result.{err_from_is_err_and}
use Rattle.s2_io.specs.declared.exit.Exit.{Exit}
use Rattle.s2_evidence.specs.CheckingEach.{AnsweredSoFar, ChecksEach, AnswersNext}
use Rattle.s2_evidence.proofs.CheckEachLemmas.{next_stops, ends_as, stops_full, grows_as}
use Rattle.s2_evidence.proofs.check_each.check_others.Goals as goal

pub others-init : goal.others-init
others-init g c = record {
  so_far = λ before start file so. ([], refl, so);
  room = c.requires.room;
  reads = refl;
  writes = refl;
}

pub returns-in_err-check_next-clause-checks : goal.returns-in_err-check_next-clause-checks
returns-in_err-check_next-clause-checks g c = λ known before start file are so.
    let (others, count, now) = c.others.invariant.so_far before start file so in
    let p = err_from_is_err_and c.from_residual.result c.from_residual.ensures.1 in
    rw (p.1, p.2) (next_stops known before _ _ c.args.matrix.now file others c.others.exit start _ _ c.in_err-check_next.field-0.0 now are c.in_err-check_next.ensures.checks)

pub returns-in-None-clause-checks : goal.returns-in-None-clause-checks
returns-in-None-clause-checks g c = λ known before start file are so.
    let (others, count, now) = c.others.invariant.so_far before start file so in
    ends_as known before _ _ c.args.matrix.now file others c.others.exit start _ _ c.in_ok-check_next.field-0 now are c.in-None.is c.in_ok-check_next.ensures.checks

pub others-preserved : goal.others-preserved
others-preserved g c = record {
  so_far = λ before start file so. (let (others, count, now) = c.others.invariant.so_far before start file so in
      grows_as before _ _ c.args.matrix.now file others c.others.exit start _ _ c.in_ok-check_next.field-0 c.in-Some.next c.worse-exit.result c.others._checked now count c.in-Some.is c.in_ok-check_next.ensures.checks c.worse-exit.ensures);
  room = c.in_ok-check_next.ensures.room ∙ c.others.invariant.room;
  reads = c.in_ok-check_next.ensures.no_read (λ e. absurd (cc)) ∙ c.others.invariant.reads;
  writes = c.in_ok-check_next.ensures.no_write (λ e. absurd (cc)) ∙ c.others.invariant.writes;
}

pub returns-clause-checks : goal.returns-clause-checks
returns-clause-checks g c = λ known before start file are so.
    let (others, count, now) = c.others.invariant.so_far before start file so in
    stops_full known before _ c.args.matrix.now file others c.others.exit start _ now are (omega (arith, count, c.others-test.false, c.others.auto._checked-end))
