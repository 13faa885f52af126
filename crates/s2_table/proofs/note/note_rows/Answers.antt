use Rattle.s2_table.proofs.note.note_rows.Goals as goal

pub returns-clause-noted : goal.returns-clause-noted
returns-clause-noted g c = λ same. (c.is_standard.result, c.is_standard.ensures, c.note_answer.ensures.noted same)
