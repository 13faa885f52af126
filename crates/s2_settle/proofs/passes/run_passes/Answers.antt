use Rattle.std.proofs.Common.{◌≡◌, ℕ, suc, ◌+◌, ◌-◌, ◌==◌, ◌≤◌, Bool, true, false, Option, None, Some, refl, ap, sym, subst, ◌∙◌, inl, inr, arith, eq-eqb, ne_eqb}
use Rattle.std.proofs.lemmas.Bool.{cases_Bool}
use Rattle.s2_matrix.specs.Code.{code_of}
use Rattle.s2_settle.specs.declared.course.Course.{Course}
use Rattle.s2_settle.specs.declared.course.Step.{Step}
use Rattle.s2_settle.specs.Plain.{State, is_hopeless, after, step_at, passes}
use Rattle.s2_settle.specs.Plain as plain
use Rattle.s2_settle.specs.Layer.{Held}
use Rattle.s2_settle.specs.Passes.{pass}
use Rattle.s2_settle.specs.Shows.{IsShown, ShowsEnd}
use Rattle.s2_settle.proofs.PlainPasses.{lacking_same, pass_shown, passes_now, passes_never, passes_hopeless, passes_later, end_none, end_some}
use Rattle.s2_settle.proofs.passes.run_passes.Goals as goal

pub loop-pass-init : goal.loop-pass-init
loop-pass-init c = record {
  long = c.requires.long;
  before = c.requires.before;
  left = λ k all s shown. (
      let k_is : k ≡ c.args.passes = omega arith in
      record { state = s; shown = shown; same = λ i. passes (code_of c.args.matrix.now) c.args.matrix.now.shape.q (k_is i) 0 c.args.first s }
      );
}

pub returns-then-now-eq0-clause-is : goal.returns-then-now-eq0-clause-is
returns-then-now-eq0-clause-is c = λ s shown. (
    let rows = c.args.matrix.now in
    let code = code_of rows in
    let h = c.loop-pass.held in
    let k = c.args.passes - c.loop-pass.pass in
    let left = c.loop-pass.invariant.left k (omega arith) s shown in
    let none : (plain.lacking code left.state == 0) ≡ true = eq-eqb (plain.lacking code left.state) 0 (sym (c.lacking-now.ensures.is ∙ lacking_same rows c.requires.fit h left.state left.shown.shows) ∙ c.if-now-eq0.true) in
    end_some rows _ h left.state left.shown (sym left.same ∙ passes_now code rows.shape.q k c.loop-pass.pass c.loop-pass.course left.state none)
    )

pub returns-then-is_hopeless-clause-is : goal.returns-then-is_hopeless-clause-is
returns-then-is_hopeless-clause-is c = λ s shown. (
    let rows = c.args.matrix.now in
    let code = code_of rows in
    let h = c.loop-pass.held in
    let p = c.loop-pass.pass in
    let k = c.args.passes - p - 1 in
    let left = c.loop-pass.invariant.left (suc k) (omega arith) s shown in
    let now = c.lacking-now.ensures.is ∙ lacking_same rows c.requires.fit h left.state left.shown.shows in
    let some : (plain.lacking code left.state == 0) ≡ false = ne_eqb (plain.lacking code left.state) 0 (λ e. c.if-now-eq0.false (now ∙ e)) in
    let test : is_hopeless code.bits p c.loop-pass.course.before (plain.lacking code left.state) ≡ true = (λ i. is_hopeless (sym c.bits-bits.ensures.is i) p c.loop-pass.course.before (sym now i)) ∙ sym c.is_hopeless.ensures ∙ c.if-is_hopeless.true in
    end_none rows _ h (sym left.same ∙ passes_hopeless code rows.shape.q k p c.loop-pass.course left.state some test)
    )

pub loop-pass-preserved : goal.loop-pass-preserved
loop-pass-preserved c =
    let rows = c.args.matrix.now in
    let code = code_of rows in
    let h = c.loop-pass.held in
    let p = c.loop-pass.pass in
    let course = c.loop-pass.course in
    let inv = c.loop-pass.invariant in
    let now = c.lacking-now.result in
    let few : now ≤ 64800 = omega (arith, c.lacking-now.ensures.few, inv.long.rests_long, c.bits-bits.ensures.is, c.bits-bits.ensures.few) in
    record {
      long = c.run_pass.ensures.long;
      before = omega (arith, ap (λ (x : Course). x.before) c.after-course.ensures, few);
      left = λ k all s shown. (
          let left = inv.left (suc k) (omega arith) s shown in
          let st = left.state in
          let count = c.lacking-now.ensures.is ∙ lacking_same rows c.requires.fit h st left.shown.shows in
          let some : (plain.lacking code st == 0) ≡ false = ne_eqb (plain.lacking code st) 0 (λ e. c.if-now-eq0.false (count ∙ e)) in
          let test : is_hopeless code.bits p course.before (plain.lacking code st) ≡ false = (λ i. is_hopeless (sym c.bits-bits.ensures.is i) p course.before (sym count i)) ∙ sym c.is_hopeless.ensures ∙ c.if-is_hopeless.false in
          let step_is : c.step.result ≡ step_at course p (plain.lacking code st) = c.step.ensures ∙ ap (step_at course p) count in
          let next : c.after-course.result ≡ after course (plain.lacking code st) = c.after-course.ensures ∙ ap (after course) count in
          record {
            state = plain.pass code rows.shape.q c.step.result st;
            shown = subst (λ (x : Held). IsShown rows x (plain.pass code rows.shape.q c.step.result st)) (sym c.run_pass.ensures.is) (pass_shown rows c.requires.fit c.step.result (omega arith) h st left.shown);
            same = (λ i. passes code rows.shape.q k (p + 1) (next i) (plain.pass code rows.shape.q (step_is i) st)) ∙ sym (passes_later code rows.shape.q k p course st some test) ∙ left.same;
          }
          );
    }

pub returns-clause-is : goal.returns-clause-is
returns-clause-is c = λ s shown. (
    let rows = c.args.matrix.now in
    let code = code_of rows in
    let h = c.loop-pass.held in
    let p = c.loop-pass.pass in
    let left = c.loop-pass.invariant.left 0 (omega arith) s shown in
    let st = left.state in
    let now : (plain.lacking code st == 0) ≡ (c.lacking.result == 0) = ap (λ x. x == 0) (sym (c.lacking.ensures.is ∙ lacking_same rows c.requires.fit h st left.shown.shows)) in
    let end = passes code rows.shape.q c.args.passes 0 c.args.first s in
    elim (cases_Bool (c.lacking.result == 0)) [
      | inl found ↦ subst (λ (b : Bool). ShowsEnd rows end b h) (sym found) (end_some rows end h st left.shown (sym left.same ∙ passes_now code rows.shape.q 0 p c.loop-pass.course st (now ∙ found)))
      | inr none ↦ subst (λ (b : Bool). ShowsEnd rows end b h) (sym none) (end_none rows end h (sym left.same ∙ passes_never code rows.shape.q p c.loop-pass.course st (now ∙ none)))
    ]
    )
