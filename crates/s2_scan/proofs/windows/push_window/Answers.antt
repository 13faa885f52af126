use Rattle.std.proofs.Common.{◌≡◌, ◌++◌, ap, ◌∙◌, arith}
use Rattle.std.specs.List.{flat_map, range_with_len}
use Rattle.s2_scan.specs.Forms.{forms}
use Rattle.s2_scan.specs.Passing.{passes_at, passes_in_form}
use Rattle.s2_scan.proofs.Ranges.{flat_more}
use Rattle.s2_scan.proofs.windows.push_window.Goals as goal

pub loop-form-preserved : goal.loop-form-preserved
loop-form-preserved c =
    let f = passes_in_form c.args.position c.args.window.now in
    c.in_ok-push_form.ensures ∙ (ap (λ l. l ++ f c.loop-form.form) c.loop-form.invariant ∙ flat_more f c.args.passes.now.items c.loop-form.form)

pub returns : goal.returns
unfolding passes_at forms
returns c =
    let end : c.loop-form.form ≡ 16 = omega arith in
    c.loop-form.invariant ∙ ap (λ n. c.args.passes.now.items ++ flat_map (passes_in_form c.args.position c.args.window.now) (range_with_len 0 n)) end

pub push_form-requires-clause-seen : goal.push_form-requires-clause-seen
push_form-requires-clause-seen c = c.seen_as-seen.ensures c.args.window.now c.requires.big c.requires.little
