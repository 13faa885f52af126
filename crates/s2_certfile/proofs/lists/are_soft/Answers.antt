use Rattle.std.proofs.Common.{◌≡◌, true, false, take, sym, ap, ◌∙◌, arith}
use Rattle.s2_certfile.specs.Field.{entry}
use Rattle.s2_certfile.specs.Format.{soft}
use Rattle.s2_certfile.proofs.EntryLemmas.{next_rest, all_pass, one_fails, passes_below}
use Rattle.s2_certfile.proofs.lists.are_soft.Goals as goal

pub returns-then-not-is_soft : goal.returns-then-not-is_soft
returns-then-not-is_soft c =
    let i = c.loop-i.i in
    let bytes = c.args.bytes.now in
    let front : c.split_at.result.0.now ≡ entry soft.size bytes i = c.split_at.ensures.front ∙ ap (take soft.size) c.loop-i.invariant.rest in
    let here : soft.test (entry soft.size bytes i) ≡ false = ap soft.test (sym front) ∙ sym c.is_soft.ensures ∙ c.if-not-is_soft.true in
    sym (one_fails (λ k. soft.test (entry soft.size bytes k)) c.args.n i c.loop-i-test.true here)

pub loop-i-preserved : goal.loop-i-preserved
loop-i-preserved c =
    let i = c.loop-i.i in
    let bytes = c.args.bytes.now in
    let front : c.split_at.result.0.now ≡ entry soft.size bytes i = c.split_at.ensures.front ∙ ap (take soft.size) c.loop-i.invariant.rest in
    let here : soft.test (entry soft.size bytes i) ≡ true = ap soft.test (sym front) ∙ sym c.is_soft.ensures ∙ c.if-not-is_soft.false in
    record {
      rest = c.split_at.ensures.back ∙ next_rest soft.size i bytes c.loop-i.rest.now c.loop-i.invariant.rest;
      passed = passes_below (λ k. soft.test (entry soft.size bytes k)) i c.loop-i.invariant.passed here;
    }

pub returns : goal.returns
returns c =
    sym (all_pass (λ k. soft.test (entry soft.size c.args.bytes.now k)) c.args.n (λ k low. c.loop-i.invariant.passed k (omega (arith, c.loop-i-test.false))))
