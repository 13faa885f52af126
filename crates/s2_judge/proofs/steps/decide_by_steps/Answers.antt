use Rattle.std.proofs.Common.{◌≡◌, Bool, None, IfSome, cond, length, sym, ap, subst, ◌∙◌, arith}
use Rattle.std.proofs.lemmas.List.{length-map}
use Rattle.s2_check.specs.Hard.{hard_decision}
use Rattle.s2_split.specs.Making.{shared_view, shared_views}
use Rattle.s2_judge.specs.Deciding.{is_strict, repair_view}
use Rattle.s2_judge.proofs.Decisions.{copied, test_in, rounds_hard}
use Rattle.s2_judge.proofs.EvidenceLemmas.{step_one, step_two, past_two, by_same, rounds_two, rounds_past}
use Rattle.s2_judge.proofs.steps.decide_by_steps.Goals as goal

pub returns-then-judge_unsplit-clause-decided : goal.returns-then-judge_unsplit-clause-decided
returns-then-judge_unsplit-clause-decided c =
    let r = c.args.certifier.now.rows in
    let soft = c.args.soft.now in
    let even = test_in r c.matrix.result.now (hard_decision soft) c.judge_unsplit.result c.matrix.ensures (length-map soft _ ∙ c.requires.soft) c.judge_unsplit.ensures.codeword ∙ c.if-judge_unsplit.true in
    step_one r c.args.tuning soft c.judge_unsplit.new.word c.args.certifier.now.found c.none_is_zero.result c.judge_unsplit.ensures.word even c.requires.soft c.none_is_zero.ensures

pub copy_prefix-requires-clause-mine : goal.copy_prefix-requires-clause-mine
copy_prefix-requires-clause-mine c =
    let long = ap length c.judge_unsplit.ensures.word ∙ length-map c.args.soft.now _ ∙ c.requires.soft in
    omega (arith, c.len.ensures, long, c.try_repair-is_certified.ensures.long)

pub returns-then-is_certified-clause-decided : goal.returns-then-is_certified-clause-decided
returns-then-is_certified-clause-decided c =
    let r = c.args.certifier.now.rows in
    let soft = c.args.soft.now in
    let try = c.try_repair-is_certified in
    let word = try.new.repair in
    let found = try.new.certifier.found in
    let long = ap length c.judge_unsplit.ensures.word ∙ length-map soft _ ∙ c.requires.soft in
    let same = copied word c.judge_unsplit.new.word c.copy_prefix.new.self c.len.result c.len.ensures (long ∙ sym try.ensures.long) c.copy_prefix.ensures in
    let odd = test_in r c.matrix.result.now (hard_decision soft) c.judge_unsplit.result c.matrix.ensures (length-map soft _ ∙ c.requires.soft) c.judge_unsplit.ensures.codeword ∙ c.if-judge_unsplit.false in
    let strict = subst (λ (b : Bool). IfSome found (λ s. is_strict r (shared_view r soft word s) ≡ b)) (sym c.is_strict.ensures) (try.ensures.strict c.if-is_certified.true) in
    let view = sym (ap (λ p. repair_view r p soft) c.requires.passes) ∙ try.ensures.view ∙ ap (λ b. cond b (shared_views r soft word found) None) c.if-is_certified.true in
    step_two r c.args.tuning soft c.copy_prefix.new.self word found c.is_strict.result odd (try.ensures.repair (try.ensures.both c.if-is_certified.true)) same (try.ensures.found c.if-is_certified.true) view strict

pub returns-clause-decided : goal.returns-clause-decided
returns-clause-decided c =
    let r = c.args.certifier.now.rows in
    let soft = c.args.soft.now in
    let try = c.try_repair-is_certified in
    let by = c.decide_by_min_sum in
    let odd = test_in r c.matrix.result.now (hard_decision soft) c.judge_unsplit.result c.matrix.ensures (length-map soft _ ∙ c.requires.soft) c.judge_unsplit.ensures.codeword ∙ c.if-judge_unsplit.false in
    let none = sym (ap (λ p. repair_view r p soft) c.requires.passes) ∙ try.ensures.view ∙ ap (λ b. cond b (shared_views r soft try.new.repair try.new.certifier.found) None) c.if-is_certified.false in
    past_two r c.args.tuning soft odd none
    ∙ by_same r try.new.certifier.rows c.args.tuning soft by.new.bits by.new.certifier.found by.result.0 try.ensures.rows by.ensures.decided

pub returns-then-judge_unsplit-clause-rounds : goal.returns-then-judge_unsplit-clause-rounds
returns-then-judge_unsplit-clause-rounds c =
    let soft = c.args.soft.now in
    rounds_hard c.args.certifier.now.rows c.args.tuning soft (test_in c.args.certifier.now.rows c.matrix.result.now (hard_decision soft) c.judge_unsplit.result c.matrix.ensures (length-map soft _ ∙ c.requires.soft) c.judge_unsplit.ensures.codeword ∙ c.if-judge_unsplit.true)

pub returns-then-is_certified-clause-rounds : goal.returns-then-is_certified-clause-rounds
returns-then-is_certified-clause-rounds c =
    let r = c.args.certifier.now.rows in
    let soft = c.args.soft.now in
    let try = c.try_repair-is_certified in
    let word = try.new.repair in
    let found = try.new.certifier.found in
    let odd = test_in r c.matrix.result.now (hard_decision soft) c.judge_unsplit.result c.matrix.ensures (length-map soft _ ∙ c.requires.soft) c.judge_unsplit.ensures.codeword ∙ c.if-judge_unsplit.false in
    let view = sym (ap (λ p. repair_view r p soft) c.requires.passes) ∙ try.ensures.view ∙ ap (λ b. cond b (shared_views r soft word found) None) c.if-is_certified.true in
    rounds_two r c.args.tuning soft word found odd (try.ensures.found c.if-is_certified.true) view

pub returns-clause-rounds : goal.returns-clause-rounds
returns-clause-rounds c =
    let r = c.args.certifier.now.rows in
    let soft = c.args.soft.now in
    let try = c.try_repair-is_certified in
    let odd = test_in r c.matrix.result.now (hard_decision soft) c.judge_unsplit.result c.matrix.ensures (length-map soft _ ∙ c.requires.soft) c.judge_unsplit.ensures.codeword ∙ c.if-judge_unsplit.false in
    let none = sym (ap (λ p. repair_view r p soft) c.requires.passes) ∙ try.ensures.view ∙ ap (λ b. cond b (shared_views r soft try.new.repair try.new.certifier.found) None) c.if-is_certified.false in
    rounds_past r try.new.certifier.rows c.args.tuning soft odd none try.ensures.rows ∙ c.decide_by_min_sum.ensures.rounds
