use Rattle.std.proofs.Common.{◌≡◌, true, false, ◌++◌, get_or, OnOk, append-nil, ap, sym, subst, ◌∙◌, arith}
use Rattle.s2_scan.specs.Passing.{matches_sof, seen_as}
use Rattle.s2_scan.proofs.NoPasses.{none_in_form, some_in_form}
use Rattle.s2_scan.proofs.UndoLemmas.{sof_is}
use Rattle.s2_scan.proofs.passes.push_form.Goals as goal

pub returns-then-is_sof : goal.returns-then-is_sof
returns-then-is_sof c =
    let seen = seen_as c.args.form c.args.window.now in
    let is : matches_sof seen ≡ true = sym (sof_is seen (get_or c.args.numbers.now 0 0) c.args.seen (c.requires.headers 0 (omega arith)) c.requires.seen) ∙ (sym c.is_sof.ensures ∙ c.if-is_sof.true) in
    subst (λ ps. OnOk c.push_headers.result (c.push_headers.new.passes.items ≡ c.args.passes.now.items ++ ps)) (sym (some_in_form c.args.position c.args.window.now c.args.form is)) c.push_headers.ensures

pub returns-else-is_sof : goal.returns-else-is_sof
returns-else-is_sof c =
    let seen = seen_as c.args.form c.args.window.now in
    let is : matches_sof seen ≡ false = sym (sof_is seen (get_or c.args.numbers.now 0 0) c.args.seen (c.requires.headers 0 (omega arith)) c.requires.seen) ∙ (sym c.is_sof.ensures ∙ c.if-is_sof.false) in
    sym (append-nil c.args.passes.now.items) ∙ ap (λ ps. c.args.passes.now.items ++ ps) (sym (none_in_form c.args.position c.args.window.now c.args.form is))
