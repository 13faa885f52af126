use Rattle.std.proofs.Common.{◌≡◌, ◌+◌, ◌-◌, ◌<◌, length, take, drop, ap, sym, ◌∙◌, arith}
use Rattle.std.proofs.lemmas.List.{ext_get_or, get_or-take, get_or-drop, length-take-le, length-drop}
use Rattle.s2_minsum.specs.Rows.{no_entry, entry_at}
use Rattle.s2_minsum.specs.Layout.{entries_of, entry_count}
use Rattle.s2_minsum.proofs.LayerCalls.{entries_are, length-entries}
use Rattle.s2_minsum.proofs.layers.entries_in.Goals as goal

pub returns : goal.returns
returns c =
    let rows = c.args.matrix.now in
    let r = c.args.r in
    let all = c.args.entries.now in
    let start = c.find_span-span.result.start in
    let count = c.find_span-span.result.count in
    let w = start + count - start in
    let many = c.find_span-span.ensures.count in
    let long : length (take w (drop start all)) ≡ w = length-take-le w (drop start all) (omega (arith, length-drop start all, c.find_span-span.ensures.entries)) in
    ext_get_or no_entry (take w (drop start all)) (entries_of rows r) (long ∙ omega (arith, many, length-entries rows r)) (λ e lt. (
    let low : e < entry_count rows r = omega (arith, long, many) in
    let room : e < w = omega (arith, long) in
    get_or-take w (drop start all) e no_entry room ∙ get_or-drop start all e no_entry ∙ ap (λ s. entry_at all (s + e)) c.find_span-span.ensures.start ∙ c.requires.layers.entries_are r e c.requires.layer low ∙ sym (entries_are rows r e low)
    ))
