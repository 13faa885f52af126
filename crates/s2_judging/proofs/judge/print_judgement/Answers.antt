use Rattle.std.proofs.Common.{rules, Result, ◌≡◌, ℕ, ◌+◌, sym, subst, ap, ◌∙◌, ℤ, List, Ok, Err, refl}
use Rattle.std.specs.Prelude.{IfSome}
use Rattle.std.proofs.lemmas.Result.{err_from_is_err_and}
use Rattle.std.specs.List.{list_all}
use Rattle.s2_rows.specs.Rows.{Rows}
use Rattle.s2_judging.specs.declared.hard_note.Ran.{Ran}
use Rattle.s2_judging.specs.declared.reading.Judged.{Judged}
use Rattle.s2_io.specs.Exits.{Follows, CommandRuns, CommandCounts}
use Rattle.s2_io.specs.declared.exit.Exit.{Exit}
use Rattle.s2_io.specs.declared.fault.Fault.{Fault}
use Rattle.s2_io.specs.declared.fault.Fault.TheVariants as faults
use Rattle.s2_io.proofs.CommandLemmas.{refused, runs_moved}
use Rattle.s2_judging.specs.Files.{JudgeFiles, written}
use Rattle.s2_judging.specs.HardNotes.{is_bit}
use Rattle.s2_judging.specs.Inputs.{inputs_by, AreInputsBy, IsOnly}
use Rattle.s2_judging.specs.Certifying.{IsJudgedAndCertified}
use Rattle.s2_judging.proofs.CertifyLemmas.{unchanged, leaves_moved}
use Rattle.s2_judging.proofs.InputLemmas.{refused_inputs}
use Rattle.s2_judging.proofs.NoteLemmas.{one_frame, counts_after}
use Rattle.s2_judging.proofs.judge.print_judgement.Goals as goal

abbrev stopped : Fault → Result Exit Fault
stopped f = Err f

-- the counts of a reading that failed
counts_stopped : (f : Fault) (a b w : ℕ) → (stopped f ≡ Err faults.Read → b ≡ a + 1) → ((stopped f ≡ Err faults.Read → ⊥) → b ≡ a) → (stopped f ≡ Err faults.Write → ⊥) → CommandCounts (stopped f) a b w w
counts_stopped f a b w read no_read no_write = record {
  only = record { no_read = no_read; write_reported = λ e. absurd (no_write e); no_write = λ _. (refl, refl) };
  read = read;
}

pub returns-in_err-judged-clause-run : goal.returns-in_err-judged-clause-run
returns-in_err-judged-clause-run g c =
    let view : Judged → Rows × List ℤ = λ j. (j.matrix, j.soft.items) in
    let f = c.in_err-judged.field-0.0 in
    let P : JudgeFiles → Type 0 = λ fs. IfSome fs.rows (λ xs. IfSome fs.soft (λ ys. Follows view (Err f) (inputs_by c.args.hard c.args.shape xs ys))) in
    let p = err_from_is_err_and c.from_residual.result c.from_residual.ensures.1 in
    let Is = AreInputsBy c.args.hard c.args.shape c.args.files.now.rows c.args.files.now.soft in
    let Says = IsJudgedAndCertified c.args.hard c.args.tuning c.args.files.now.certificate (written g.C.CountedWrite.contents g.C.Counted.count c.files.inside.certificate) in
    rw (p.1, p.2) (refused Says Is f (g.O.CountedWrite.contents c.args.out.now) (g.O.CountedWrite.contents c.args.out.now)
    (refused_inputs Says view c.args.hard c.args.shape c.args.files.now.rows c.args.files.now.soft f (subst P c.files.view_is c.in_err-judged.ensures.says)) refl)

pub returns-in_err-judged-clause-leaves : goal.returns-in_err-judged-clause-leaves
returns-in_err-judged-clause-leaves g c =
    let Is = AreInputsBy c.args.hard c.args.shape (g.R.CountedRead.remaining c.files.inside.rows) (g.R.CountedRead.remaining c.files.inside.soft) in
    let p = err_from_is_err_and c.from_residual.result c.from_residual.ensures.1 in
    rw (p.1, p.2, sym c.files.view_is) (unchanged c.args.tuning Is c.in_err-judged.field-0.0 (written g.C.CountedWrite.contents g.C.Counted.count c.files.inside.certificate) (search rules))

pub returns-in_err-exit-clause-run : goal.returns-in_err-exit-clause-run
returns-in_err-exit-clause-run g c =
    let file = written g.C.CountedWrite.contents g.C.Counted.count in
    let input : Rows × List ℤ = (c.in_ok-judged.judged.matrix, c.in_ok-judged.judged.soft.items) in
    let Is = AreInputsBy c.args.hard c.args.shape (g.R.CountedRead.remaining c.files.inside.rows) (g.R.CountedRead.remaining c.files.inside.soft) in
    let Says = IsJudgedAndCertified c.args.hard c.args.tuning (file c.files.inside.certificate) (file c.print_soft.new.certificate) in
    let p = err_from_is_err_and c.from_residual-in_err-exit.result c.from_residual-in_err-exit.ensures.1 in
    let f = c.in_err-exit.field-0.0 in
    let old = g.O.CountedWrite.contents c.args.out.now in
    let new = g.O.CountedWrite.contents c.print_soft.new.out in
    let P : JudgeFiles → Type 0 = λ fs. CommandRuns (IsJudgedAndCertified c.args.hard c.args.tuning fs.certificate (file c.print_soft.new.certificate)) (AreInputsBy c.args.hard c.args.shape fs.rows fs.soft) (Err f) old new in
    rw (p.1, p.2) (subst P c.files.view_is (runs_moved Says (IsOnly input) Is (Err f) old new (λ said e. subst Is (sym e) c.in_ok-judged.ensures.says) c.in_err-exit.ensures.run))

pub returns-in_err-exit-clause-leaves : goal.returns-in_err-exit-clause-leaves
returns-in_err-exit-clause-leaves g c =
    let file = written g.C.CountedWrite.contents g.C.Counted.count in
    let input : Rows × List ℤ = (c.in_ok-judged.judged.matrix, c.in_ok-judged.judged.soft.items) in
    let Is = AreInputsBy c.args.hard c.args.shape (g.R.CountedRead.remaining c.files.inside.rows) (g.R.CountedRead.remaining c.files.inside.soft) in
    let p = err_from_is_err_and c.from_residual-in_err-exit.result c.from_residual-in_err-exit.ensures.1 in
    rw (p.1, p.2, sym c.files.view_is) (leaves_moved c.args.tuning Is input (Err c.in_err-exit.field-0.0) (file c.files.inside.certificate) (file c.print_soft.new.certificate) c.in_ok-judged.ensures.says c.in_err-exit.ensures.leaves)

pub returns-clause-run : goal.returns-clause-run
returns-clause-run g c =
    let file = written g.C.CountedWrite.contents g.C.Counted.count in
    let input : Rows × List ℤ = (c.in_ok-judged.judged.matrix, c.in_ok-judged.judged.soft.items) in
    let Is = AreInputsBy c.args.hard c.args.shape (g.R.CountedRead.remaining c.files.inside.rows) (g.R.CountedRead.remaining c.files.inside.soft) in
    let Says = IsJudgedAndCertified c.args.hard c.args.tuning (file c.files.inside.certificate) (file c.print_soft.new.certificate) in
    rw (sym c.files.view_is) (runs_moved Says (IsOnly input) Is (Ok c.in_ok-exit.exit) _ _ (λ said e. subst Is (sym e) c.in_ok-judged.ensures.says) c.in_ok-exit.ensures.run)

pub returns-clause-looks : goal.returns-clause-looks
returns-clause-looks g c =
    let Is = AreInputsBy c.args.hard c.args.shape (g.R.CountedRead.remaining c.files.inside.rows) (g.R.CountedRead.remaining c.files.inside.soft) in
    let ran : Ran = record { exit = c.in_ok-exit.exit; looks_hard = c.are_bits.result } in
    rw (sym c.files.view_is) (one_frame c.in_ok-judged.judged.matrix c.in_ok-judged.judged.soft.items Is ran c.in_ok-judged.ensures.says (c.are_bits.ensures ∙ ap (list_all is_bit) c.deref.ensures.value))

pub returns-clause-leaves : goal.returns-clause-leaves
returns-clause-leaves g c =
    let file = written g.C.CountedWrite.contents g.C.Counted.count in
    let input : Rows × List ℤ = (c.in_ok-judged.judged.matrix, c.in_ok-judged.judged.soft.items) in
    let Is = AreInputsBy c.args.hard c.args.shape (g.R.CountedRead.remaining c.files.inside.rows) (g.R.CountedRead.remaining c.files.inside.soft) in
    rw (sym c.files.view_is) (leaves_moved c.args.tuning Is input (Ok c.in_ok-exit.exit) (file c.files.inside.certificate) (file c.print_soft.new.certificate) c.in_ok-judged.ensures.says c.in_ok-exit.ensures.leaves)

pub returns-in_err-judged-clause-causes : goal.returns-in_err-judged-clause-causes
returns-in_err-judged-clause-causes g c =
    let p = err_from_is_err_and c.from_residual.result c.from_residual.ensures.1 in
    rw (p.1, p.2, sym c.files.view_is) (counts_stopped c.in_err-judged.field-0.0 _ _ _ (λ e. c.in_err-judged.ensures.read (search e)) (λ other. c.in_err-judged.ensures.no_read (λ e. other (search e))) (λ e. c.in_err-judged.ensures.write (search e)))

pub returns-in_err-exit-clause-causes : goal.returns-in_err-exit-clause-causes
returns-in_err-exit-clause-causes g c =
    let p = err_from_is_err_and c.from_residual-in_err-exit.result c.from_residual-in_err-exit.ensures.1 in
    rw (p.1, p.2, sym c.files.view_is) (counts_after (Err c.in_err-exit.field-0.0) _ _ _ _ (c.in_ok-judged.ensures.no_read (λ e. absurd (cc))) c.in_err-exit.ensures.read c.in_err-exit.ensures.causes)

pub returns-clause-causes : goal.returns-clause-causes
returns-clause-causes g c =
    rw (sym c.files.view_is) (counts_after (Ok c.in_ok-exit.exit) _ _ _ _ (c.in_ok-judged.ensures.no_read (λ e. absurd (cc))) (λ e. absurd (cc)) c.in_ok-exit.ensures.causes)
