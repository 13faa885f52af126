use Rattle.std.proofs.Common.{◌≡◌, ◌++◌, ap, ◌∙◌, arith}
use Rattle.std.specs.List.{flat_map, range_with_len}
use Rattle.s2_scan.specs.Passing.{headers}
use Rattle.s2_scan.specs.Candidates.{candidates_as, candidates_in}
use Rattle.s2_scan.proofs.Ranges.{flat_more}
use Rattle.s2_scan.proofs.candidates.push_form.Goals as goal

pub loop-header-preserved : goal.loop-header-preserved
loop-header-preserved c =
    let f = candidates_in c.args.passes.now c.args.form in
    c.in_ok-push_header.ensures ∙ (ap (λ l. l ++ f c.loop-header.header) c.loop-header.invariant ∙ flat_more f c.args.candidates.now.items c.loop-header.header)

pub returns : goal.returns
unfolding candidates_as headers
returns c =
    let end : c.loop-header.header ≡ 116 = omega arith in
    c.loop-header.invariant ∙ ap (λ n. c.args.candidates.now.items ++ flat_map (candidates_in c.args.passes.now c.args.form) (range_with_len 0 n)) end
