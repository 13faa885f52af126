use Rattle.std.proofs.Common.{◌≡◌, ◌+◌, ◌<◌, ◌++◌, [], ◌∷◌, ℕ, List, get_or, length, length-append, map, ap, sym, subst, ◌∙◌, arith, rules}
use Rattle.std.specs.List.{range_with_len}
use Rattle.s2_scan.specs.Inside.{IsWithin}
use Rattle.s2_scan.specs.Pilots.{pilot_sum, pilot_sums}
use Rattle.s2_scan.specs.Sums.{no_sum}
use Rattle.s2_scan.specs.declared.sums.Sum.{Sum}
use Rattle.s2_scan.proofs.SumLemmas.{each_more, mapped_more}
use Rattle.s2_scan.proofs.pilots.pilot_sums.Goals as goal

pub loop-k-init : goal.loop-k-init
loop-k-init c =
    let none : c.new-sums.result.items ≡ [] = search rules in
    record { are = none; size = ap length none; each = λ j lt. absurd (omega (arith, lt)) }

pub loop-k-preserved : goal.loop-k-preserved
loop-k-preserved c =
    let k = c.loop-k.k in
    let sums = c.loop-k.sums.items in
    let f = pilot_sum c.args.form c.args.bytes.now c.args.frames.now in
    let s = c.pilot_sum.result in
    let pushed = c.in_ok-push.ensures.items in
    let within = each_more sums s k 524288 c.loop-k.invariant.size c.loop-k.invariant.each c.pilot_sum.ensures.within in
    record {
      are = pushed ∙ (ap (λ (x : Sum). sums ++ x ∷ []) c.pilot_sum.ensures.is ∙ mapped_more f sums k c.loop-k.invariant.are);
      size = ap length pushed ∙ (length-append sums (s ∷ []) ∙ omega (arith, c.loop-k.invariant.size));
      each = λ j lt. subst (λ (xs : List Sum). IsWithin 524288 (get_or xs j no_sum)) (sym pushed) (within j lt);
    }

pub returns-clause-are : goal.returns-clause-are
unfolding pilot_sums
returns-clause-are c =
    let end : c.loop-k.k ≡ 72 = omega arith in
    c.loop-k.invariant.are ∙ ap (λ n. map (pilot_sum c.args.form c.args.bytes.now c.args.frames.now) (range_with_len 0 n)) end
