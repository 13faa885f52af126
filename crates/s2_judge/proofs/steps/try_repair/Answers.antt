use Rattle.std.proofs.Common.{◌≡◌, IfSome, length, sym, ap, subst, ◌∙◌}
use Rattle.std.proofs.lemmas.Bool.{false_from_ne_true}
use Rattle.std.proofs.lemmas.List.{length-map}
use Rattle.s2_rows.specs.Rows.{Rows}
use Rattle.s2_matrix.specs.Code.{code_of, IsCodeword}
use Rattle.s2_split.specs.Making.{shared_view}
use Rattle.s2_split.specs.Scattered.{repaired}
use Rattle.s2_split.proofs.Repairs.{length-repaired}
use Rattle.s2_tuning.specs.Tuning.{tuning_of}
use Rattle.s2_judge.specs.Deciding.{is_strict, satisfies}
use Rattle.s2_judge.specs.Certifying.{Certifying}
use Rattle.s2_judge.proofs.Certificates.{found_or_none, view_by_certifier}
use Rattle.s2_judge.proofs.Decisions.{repair_made, repair_odd, satisfied_codeword, test_in}
use Rattle.s2_judge.proofs.steps.try_repair.Goals as goal

pub repair_fails_early-requires : goal.repair_fails_early-requires
repair_fails_early-requires c =
    ap length c.truths.ensures ∙ ap length c.requires.hard ∙ length-map c.args.soft.now _ ∙ c.requires.soft ∙ sym (ap (λ (q : Rows). (code_of q).bits) c.matrix.ensures)

pub returns-then-repair_fails_early-clause-even : goal.returns-then-repair_fails_early-clause-even
returns-then-repair_fails_early-clause-even c =
    let r = c.args.certifier.now.rows in
    let soft = c.args.soft.now in
    false_from_ne_true (satisfies (code_of r) (repaired (code_of r) soft)) (λ even. c.repair_fails_early.ensures c.if-repair_fails_early.true soft (c.truths.ensures ∙ c.requires.hard) (subst (λ (q : Rows). IsCodeword (code_of q) (repaired (code_of q) soft)) (sym c.matrix.ensures) (satisfied_codeword (code_of r) (repaired (code_of r) soft) (length-repaired (code_of r) soft) even)))

pub returns-then-repair_fails_early-clause-view : goal.returns-then-repair_fails_early-clause-view
returns-then-repair_fails_early-clause-view c =
    let r = c.args.certifier.now.rows in
    let soft = c.args.soft.now in
    repair_odd r (tuning_of 0 c.args.certifier.now.passes) soft (false_from_ne_true (satisfies (code_of r) (repaired (code_of r) soft)) (λ even. c.repair_fails_early.ensures c.if-repair_fails_early.true soft (c.truths.ensures ∙ c.requires.hard) (subst (λ (q : Rows). IsCodeword (code_of q) (repaired (code_of q) soft)) (sym c.matrix.ensures) (satisfied_codeword (code_of r) (repaired (code_of r) soft) (length-repaired (code_of r) soft) even))))

pub satisfied-requires : goal.satisfied-requires
satisfied-requires c =
    let rows = c.matrix-2.ensures ∙ ap (λ (m : Certifying). m.rows) c.repair_into.ensures.same in
    ap length c.repair_into.ensures.word ∙ length-repaired (code_of c.args.certifier.now.rows) c.args.soft.now ∙ sym (ap (λ (q : Rows). (code_of q).bits) rows)

pub returns-then-satisfied-clause-long : goal.returns-then-satisfied-clause-long
returns-then-satisfied-clause-long c =
    ap length c.repair_into.ensures.word ∙ length-repaired (code_of c.args.certifier.now.rows) c.args.soft.now

pub returns-else-satisfied-clause-long : goal.returns-else-satisfied-clause-long
returns-else-satisfied-clause-long c =
    ap length c.repair_into.ensures.word ∙ length-repaired (code_of c.args.certifier.now.rows) c.args.soft.now

pub returns-then-satisfied-clause-even : goal.returns-then-satisfied-clause-even
returns-then-satisfied-clause-even c =
    let r = c.args.certifier.now.rows in
    let soft = c.args.soft.now in
    let rep = c.repair_into.ensures.word in
    let rows = c.matrix-2.ensures ∙ ap (λ (m : Certifying). m.rows) c.repair_into.ensures.same in
    ap (satisfies (code_of r)) (sym rep) ∙ test_in r c.matrix-2.result.now c.repair_into.new.word c.satisfied.result rows (ap length rep ∙ length-repaired (code_of r) soft) c.satisfied.ensures ∙ c.if-satisfied.true

pub returns-else-satisfied-clause-even : goal.returns-else-satisfied-clause-even
returns-else-satisfied-clause-even c =
    let r = c.args.certifier.now.rows in
    let soft = c.args.soft.now in
    let rep = c.repair_into.ensures.word in
    let rows = c.matrix-2.ensures ∙ ap (λ (m : Certifying). m.rows) c.repair_into.ensures.same in
    ap (satisfies (code_of r)) (sym rep) ∙ test_in r c.matrix-2.result.now c.repair_into.new.word c.satisfied.result rows (ap length rep ∙ length-repaired (code_of r) soft) c.satisfied.ensures ∙ c.if-satisfied.false

pub returns-then-satisfied-clause-view : goal.returns-then-satisfied-clause-view
returns-then-satisfied-clause-view c =
    let r = c.args.certifier.now.rows in
    let soft = c.args.soft.now in
    let passes = c.args.certifier.now.passes in
    let word = c.repair_into.new.word in
    let same = c.repair_into.ensures.same in
    let rep = c.repair_into.ensures.word in
    let rows = c.matrix-2.ensures ∙ ap (λ (m : Certifying). m.rows) same in
    let even = ap (satisfies (code_of r)) (sym rep) ∙ test_in r c.matrix-2.result.now word c.satisfied.result rows (ap length rep ∙ length-repaired (code_of r) soft) c.satisfied.ensures ∙ c.if-satisfied.true in
    repair_made r (tuning_of 0 passes) soft even
    ∙ view_by_certifier soft word c.repair_into.new.self c.args.certifier.now c.certify_repair.new.self.found rep same c.certify_repair.ensures.view
    ∙ found_or_none r soft word c.certify_repair.new.self.found c.certify_repair.result c.certify_repair.ensures.found

pub returns-else-satisfied-clause-view : goal.returns-else-satisfied-clause-view
returns-else-satisfied-clause-view c =
    let r = c.args.certifier.now.rows in
    let soft = c.args.soft.now in
    let word = c.repair_into.new.word in
    let rep = c.repair_into.ensures.word in
    let rows = c.matrix-2.ensures ∙ ap (λ (m : Certifying). m.rows) c.repair_into.ensures.same in
    let odd = ap (satisfies (code_of r)) (sym rep) ∙ test_in r c.matrix-2.result.now word c.satisfied.result rows (ap length rep ∙ length-repaired (code_of r) soft) c.satisfied.ensures ∙ c.if-satisfied.false in
    repair_odd r (tuning_of 0 c.args.certifier.now.passes) soft odd

pub returns-then-satisfied-clause-strict : goal.returns-then-satisfied-clause-strict
returns-then-satisfied-clause-strict c yes' =
    let now = c.certify_repair.new.self in
    subst (λ (q : Rows). IfSome now.found (λ s. is_strict q (shared_view q c.args.soft.now c.repair_into.new.word s) ≡ now.strict)) (ap (λ (m : Certifying). m.rows) c.repair_into.ensures.same) c.certify_repair.ensures.strict
