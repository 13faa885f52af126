use Rattle.s2_commands.proofs.Names.{◌≢◌, Ok, Err, [], refl, sym, ap, inl, inr, arith, exit_by, notes_of}
use Rattle.s2_commands.proofs.Names.faults
use Rattle.s2_commands.proofs.NoteLemmas.{remarked, unremarked}
use Rattle.s2_commands.proofs.losses.finish_reception.Goals as goal

pub returns-in-Ok-clause-finishes : goal.returns-in-Ok-clause-finishes
returns-in-Ok-clause-finishes g c =
    record {
      ended = Ok (exit_by c.args.words c.in-Ok.received);
      notes = [];
      exit_is = c.exit_by.ensures;
      answered = rw (c.in-Ok.is, c.if-words.true) (refl, inl refl);
      remarks = (refl, refl);
    }

pub returns-in-Ok-write_notes-clause-finishes : goal.returns-in-Ok-write_notes-clause-finishes
returns-in-Ok-write_notes-clause-finishes g c =
    let notes = notes_of c.args.words c.args.mode.now c.in-Ok-2.received in
    rw (sym c.console.view_is) (record {
      ended = Ok (exit_by c.args.words c.in-Ok-2.received);
      notes = notes;
      exit_is = c.exit_by-in-Ok-write_notes.ensures;
      answered = rw (c.in-Ok-2.is, c.if-words.false) (refl, inl refl);
      remarks = remarked notes _ _ _ c.in-Ok-write_notes.ensures.cause c.in-Ok-write_notes.ensures.bytes (λ e. ap (λ w. g.E.CountedWrite.contents w) (c.write_notes.ensures.none e));
    })

pub returns-in-Err-write_notes-clause-finishes : goal.returns-in-Err-write_notes-clause-finishes
returns-in-Err-write_notes-clause-finishes g c =
    let notes = notes_of c.args.words c.args.mode.now c.in-Ok-2.received in
    let some : notes ≢ [] =
    λ e. absurd (omega (arith, c.in-Err-write_notes.ensures.cause, ap (λ w. g.E.Counted.count w) (c.write_notes.ensures.none e))) in
    rw (sym c.console.view_is) (record {
      ended = Err faults.Write;
      notes = notes;
      exit_is = c.report_fault.ensures.exit;
      answered = rw (c.in-Ok-2.is, c.if-words.false)
          (refl, inr (some, refl, omega (arith, c.in-Err-write_notes.ensures.cause, c.report_fault.ensures.counted)));
      remarks = unremarked notes faults.Write _ c.report_fault.new.self
          (omega (arith, c.in-Err-write_notes.ensures.cause, c.report_fault.ensures.counted));
    })
