use Rattle.std.proofs.Common.{rules, ◌≡◌, ℕ, ◌+◌, Result, Ok, Err, refl, sym, inl, inr, arith}
use Rattle.std.proofs.lemmas.Result.{err_from_is_err_and}
use Rattle.s2_io.specs.Exits.{CommandCounts}
use Rattle.s2_io.specs.declared.exit.Exit.{Exit}
use Rattle.s2_io.specs.declared.fault.Fault.{Fault}
use Rattle.s2_io.specs.declared.fault.Fault.TheVariants as faults
use Rattle.s2_judging.specs.declared.hard_note.Ran.{Ran}
use Rattle.s2_judging.specs.Files.{written}
use Rattle.s2_judging.specs.HardNotes.{exit_in}
use Rattle.s2_judging.proofs.judge_each.print_judgements.Goals as goal

abbrev stopped : Fault → Result Exit Fault
stopped f = Err f

-- the counts of rows that could not be read
counts_unread : (f : Fault) (a b a' w : ℕ) → (stopped f ≡ Err faults.Read → a' ≡ a + 1) → ((stopped f ≡ Err faults.Read → ⊥) → a' ≡ a) → (stopped f ≡ Err faults.Write → ⊥) → CommandCounts (stopped f) (a + b) (a' + b) w w
counts_unread f a b a' w read no_read no_write = record {
  only = record {
    no_read = λ other. (let kept = no_read other in omega (arith, kept));
    write_reported = λ e. absurd (no_write e);
    no_write = λ _. (refl, refl);
  };
  read = λ e. (let more = read e in omega (arith, more));
}

-- the counts of frames that were judged after the rows were read
counts_joined : (ended : Result Ran Fault) (a b k o a' b' k' o' : ℕ) → a' ≡ a → (ended ≡ Err faults.Read → b' ≡ b + 1) → ((ended ≡ Err faults.Read → ⊥) → b' ≡ b)
    → (ended ≡ Err faults.Write → k' + o' ≡ k + o + 1) → ((ended ≡ Err faults.Write → ⊥) → (k' ≡ k) × (o' ≡ o)) → CommandCounts (exit_in ended) (a + b) (a' + b') (k + o) (k' + o')
counts_joined (Ok ran) a b k o a' b' k' o' same read no_read write no_write =
    let kept = no_read (λ e. absurd (cc)) in
    let wrote = no_write (λ e. absurd (cc)) in
    record {
      only = record {
        no_read = λ _. omega (arith, same, kept);
        write_reported = λ e. absurd (cc);
        no_write = λ _. (refl, omega (arith, wrote.0, wrote.1));
      };
      read = λ e. absurd (cc);
    }
counts_joined (Err f) a b k o a' b' k' o' same read no_read write no_write = record {
  only = record {
    no_read = λ other. (let kept = no_read (λ e. other (search e)) in omega (arith, same, kept));
    write_reported = λ e. (let more = write (search e) in inr (refl, omega (arith, more)));
    no_write = λ other. (let none = no_write (λ e. other (search e)) in (refl, omega (arith, none.0, none.1)));
  };
  read = λ e. (let more = read (search e) in omega (arith, same, more));
}

pub returns-in_err-matrix-clause-run : goal.returns-in_err-matrix-clause-run
returns-in_err-matrix-clause-run g c =
    let p = err_from_is_err_and c.from_residual.result c.from_residual.ensures.1 in
    rw (p.1, p.2, sym c.files.view_is) (inl (record {
      fault = c.in_err-matrix.field-0.0;
      failed = refl;
      other = λ e. c.in_err-matrix.ensures.write (search e);
      refused = c.in_err-matrix.ensures.rows;
      unwritten = refl;
      unprinted = refl;
    }))

pub returns-clause-run : goal.returns-clause-run
returns-clause-run g c = rw (sym c.files.view_is) (inr (record { rows = c.in_ok-matrix.matrix; accepted = c.in_ok-matrix.ensures.rows; judges = c.judge_under.ensures.judges }))

pub returns-in_err-matrix-clause-causes : goal.returns-in_err-matrix-clause-causes
returns-in_err-matrix-clause-causes g c =
    let p = err_from_is_err_and c.from_residual.result c.from_residual.ensures.1 in
    rw (p.1, p.2, sym c.files.view_is) (counts_unread c.in_err-matrix.field-0.0 _ _ _ _ (λ e. c.in_err-matrix.ensures.read (search e)) (λ other. c.in_err-matrix.ensures.no_other (λ e. other (search e))) (λ e. c.in_err-matrix.ensures.write (search e)))

pub returns-clause-causes : goal.returns-clause-causes
returns-clause-causes g c =
    rw (sym c.files.view_is) (counts_joined c.judge_under.result _ _ _ _ _ _ _ _ (c.in_ok-matrix.ensures.no_other (λ e. absurd (cc))) c.judge_under.ensures.read c.judge_under.ensures.no_read c.judge_under.ensures.write c.judge_under.ensures.no_write)
