use Rattle.std.proofs.Common.{◌≡◌, Bool, [], ◌∷◌, ◌++◌, get_or, ap, ◌∙◌, arith}
use Rattle.std.specs.Prelude.{nat_le, if◌then◌else◌}
use Rattle.std.specs.List.{flat_map, range_with_len}
use Rattle.s2_plframe.specs.Header.{header_bit}
use Rattle.s2_plframe.specs.Search.{matches_header}
use Rattle.s2_plframe.proofs.Mismatches.{test_is}
use Rattle.s2_scan.specs.Passing.{code_at, headers, pass_as, passes_as, seen_as}
use Rattle.s2_scan.proofs.Ranges.{flat_more}
use Rattle.s2_scan.proofs.passes.push_headers.Goals as goal

pub loop-header-preserved : goal.loop-header-preserved
loop-header-preserved c =
    let h = c.loop-header.header in
    let w = c.args.window.now in
    let seen = seen_as c.args.form w in
    let pass = pass_as c.args.position w c.args.form h in
    let near : nat_le c.wrong_in-near.result 12 ≡ matches_header (header_bit (code_at h)) seen =
    ap (λ n. nat_le n 12) c.wrong_in-near.ensures ∙ test_is (header_bit (code_at h)) seen (get_or c.args.numbers.now h 0) c.args.seen (c.requires.headers h c.loop-header-test.true) c.requires.seen in
    c.in_ok-push_near.ensures
    ∙ (ap (λ (b : Bool). c.loop-header.passes.items ++ (if b then pass ∷ [] else [])) near
    ∙ (ap (λ l. l ++ passes_as c.args.position w c.args.form h) c.loop-header.invariant ∙ flat_more (passes_as c.args.position w c.args.form) c.args.passes.now.items h))

pub returns : goal.returns
unfolding headers
returns c =
    let end : c.loop-header.header ≡ 116 = omega arith in
    c.loop-header.invariant ∙ ap (λ n. c.args.passes.now.items ++ flat_map (passes_as c.args.position c.args.window.now c.args.form) (range_with_len 0 n)) end
