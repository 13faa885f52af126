use Rattle.s2_commands.proofs.Names.{ℕ, List, ◌+◌, ◌∙◌, subst, OnOk, Appends, drop, codes, decimal, amplitude_start}
use Rattle.std.specs.Prelude.{◌%◌, ◌/◌}
use Rattle.s2_table.proofs.NoteLemmas.{note_written}
use Rattle.s2_commands.proofs.frame_notes.write_gained.Goals as goal

pub returns-clause-bytes : goal.returns-clause-bytes
returns-clause-bytes g c =
    let a = g.W.CountedWrite.contents c.args.out.now in
    let b = g.W.CountedWrite.contents c.write_full.new.writer in
    let fraction = g.W.CountedWrite.contents c.write_fraction.new.out in
    let d = g.W.CountedWrite.contents c.write_full-2.new.writer in
    let first = subst (λ (xs : List ℕ). Appends a b xs) (c.as_bytes.ensures ∙ c.amplitude_start.ensures) c.in_ok-write_full.ensures.bytes in
    let last = subst (λ (xs : List ℕ). OnOk c.write_full-2.result (Appends fraction d xs)) c.as_bytes-2.ensures.value c.write_full-2.ensures.bytes in
    note_written c.write_full-2.result a b fraction d (amplitude_start c.args.amplitude (c.args.gain / 10000)) (drop 1 (decimal (10000 + c.args.gain % 10000))) (codes " of tools/convert, or --equalize\n") first
    c.in_ok-write_fraction.ensures.bytes last
