use Rattle.std.proofs.Common.{◌≡◌, ◌++◌, [], ap, ◌∙◌, arith}
use Rattle.std.specs.List.{flat_map, range_with_len}
use Rattle.s2_scan.specs.Forms.{forms}
use Rattle.s2_scan.specs.Candidates.{all_candidates, candidates_as}
use Rattle.s2_scan.proofs.Ranges.{flat_more}
use Rattle.s2_scan.proofs.candidates.all_candidates.Goals as goal

pub loop-form-preserved : goal.loop-form-preserved
loop-form-preserved c =
    let f = candidates_as c.args.passes.now in
    c.in_ok-push_form.ensures ∙ (ap (λ l. l ++ f c.loop-form.form) c.loop-form.invariant ∙ flat_more f [] c.loop-form.form)

pub returns : goal.returns
unfolding all_candidates forms
returns c =
    let end : c.loop-form.form ≡ 16 = omega arith in
    c.loop-form.invariant ∙ ap (λ n. flat_map (candidates_as c.args.passes.now) (range_with_len 0 n)) end
