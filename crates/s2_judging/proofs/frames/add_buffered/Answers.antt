use Rattle.std.proofs.Common.{ℕ, List, refl, sym, ap, ◌∙◌, codes, ◌++◌, ◌+◌, ◌-◌, take, drop, length}
use Rattle.std.proofs.lemmas.List.{take_rest}
use Rattle.s2_rows.specs.FaultTexts.{value_fault_text}
use Rattle.s2_judging.specs.declared.frames.Reading.{Reading}
use Rattle.s2_judging.proofs.FrameLemmas.{adds_buffered, refuses_buffered, drop_more}
use Rattle.s2_judging.proofs.frames.add_buffered.Goals as goal

pub returns-in-Ok-clause-added : goal.returns-in-Ok-clause-added
returns-in-Ok-clause-added c =
    let at = c.args.reading.at in
    let filled : List ℕ = take c.args.reading.end c.args.buffer.now in
    let next : Reading = record { position = c.in-Ok.position; at = c.args.reading.at + c.in-Ok.used; end = c.args.reading.end; left = c.args.reading.left } in
    adds_buffered c.args.hard c.args.count c.args.buffer.now c.args.values.now.items c.add_words.new.values.items c.args.reading (take (length filled - at) (drop at filled)) c.in-Ok.used next
    (take_rest filled at) (drop_more at c.in-Ok.used filled ∙ ap (drop c.in-Ok.used) (sym (take_rest filled at))) c.in-Ok.ensures.added

pub returns-in-Err-clause-added : goal.returns-in-Err-clause-added
returns-in-Err-clause-added c =
    let at = c.args.reading.at in
    let filled : List ℕ = take c.args.reading.end c.args.buffer.now in
    rw c.value_fault.ensures (refuses_buffered c.args.hard c.args.count c.args.buffer.now c.args.values.now.items c.add_words.new.values.items c.args.reading (take (length filled - at) (drop at filled)) c.in-Err.fault
    (codes "values: " ++ value_fault_text c.in-Err.fault) (take_rest filled at) refl c.in-Err.ensures.added)
