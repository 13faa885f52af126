use Rattle.std.proofs.Common.{ℕ, List, subst}
use Rattle.std.specs.Io.KnownBytes.{Appends}
use Rattle.s2_names.specs.Names.{mode_words}
use Rattle.s2_table.proofs.NoteLemmas.{note_written}
use Rattle.s2_table.proofs.note.write_note.Goals as goal

pub returns-clause-line : goal.returns-clause-line
returns-clause-line g c =
    let a = g.E.CountedWrite.contents c.args.errors.now in
    let b = g.E.CountedWrite.contents c.write_full.new.writer in
    let words = g.E.CountedWrite.contents c.write_code.new.out in
    let d = g.E.CountedWrite.contents c.write_full-2.new.writer in
    let first = subst (λ (xs : List ℕ). Appends a b xs) c.as_bytes.ensures.value c.in_ok-write_full.ensures.bytes in
    note_written c.write_full-2.result a b words d c.args.front.now (mode_words c.args.mode.now) c.args.ending.now first c.in_ok-write_code.ensures.words c.write_full-2.ensures.bytes
