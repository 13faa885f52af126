use Rattle.std.proofs.Common.{◌≡◌, ◌≢◌, ◌↔◌, IsTrue, ◌≤◌, length, sym, ap, subst, ◌∙◌}
use Rattle.s2_rows.specs.Rows.{Rows}
use Rattle.s2_matrix.specs.Code.{code_of, IsCodeword}
use Rattle.s2_check.specs.Cost.{IsMostLikely}
use Rattle.s2_check.specs.Hard.{hard_decision, NoneIsZero}
use Rattle.s2_check.specs.Strict.{IsSole}
use Rattle.s2_check.specs.Verdicts.{is_certified}
use Rattle.s2_check.specs.Views.{unsplit_view}
use Rattle.s2_check.specs.declared.verdict.Verdict.TheVariants.{Sole, Broken}
use Rattle.s2_tuning.specs.Tuning.{Tuning}
use Rattle.s2_judge.specs.Deciding.{Decided, is_strict, rounds_run, IsShown}
use Rattle.s2_judge.specs.Judging.{Judging}
use Rattle.s2_judge.proofs.DecidingLemmas.{clean_lem, likely_lem, sole_lem, certified_lem, broken_lem}
use Rattle.s2_judge.proofs.Scattering.{scattered_lem}
use Rattle.s2_judge.proofs.Decisions.{certified_by}
use Rattle.s2_judge.proofs.EvidenceLemmas.{as_shown}
use Rattle.s2_judge.proofs.judge.Judge.decide.Goals as goal

pub returns : goal.returns
returns c =
    let r = c.args.self.now.rows in
    let n = c.args.self.now.tuning in
    let soft = c.args.self.now.soft in
    let inside = c.self.inside in
    let decide = c.decide_by_steps-evidence in
    let was = inside.certifier in
    let now = decide.new.certifier in
    let rows = ap (λ (v : Judging). v.rows) c.self.view_is in
    let tuning = ap (λ (v : Judging). v.tuning) c.self.view_is in
    let values = ap (λ (v : Judging). v.soft) c.self.view_is in
    let is = as_shown r was.rows now.rows n inside.tuning soft inside.soft.items c.deref.result.now decide.new.bits now.found decide.result.0 c.verdict.result rows decide.ensures.certifier tuning values c.deref.ensures.value c.verdict.ensures decide.ensures.decided in
    let long = ap length (sym values) ∙ c.self.invariant.soft_long ∙ ap (λ (q : Rows). (code_of q).bits) rows in
    let some : 1 ≤ n.rounds = subst (λ (t : Tuning). 1 ≤ t.rounds) tuning c.self.invariant.some in
    let checks = subst (λ (d : Decided). ((d.verdict ≢ Broken → IsCodeword (code_of r) d.bits) × (d.verdict ≡ Broken → IsCodeword (code_of r) d.bits → ⊥))) is (broken_lem r n soft long some) in
    record {
      rows = decide.ensures.certifier ∙ rows;
      tuning = tuning;
      soft = values;
      verdict = sym (ap (λ (d : Decided). d.verdict) is);
      bits = sym (ap (λ (d : Decided). d.bits) is);
      certificate = sym (ap (λ (d : Decided). d.certificate) is);
      rounds = sym decide.ensures.rounds ∙ (λ i. rounds_run (rows i) (tuning i) ((c.deref.ensures.value ∙ values) i));
      likely = subst (λ (d : Decided). IsTrue (is_certified d.verdict) → IsMostLikely (code_of r) soft d.bits) is (likely_lem r n soft long);
      sole = subst (λ (d : Decided). d.verdict ≡ Sole → IsSole (code_of r) soft d.bits) is (sole_lem r n soft long);
      certified = subst (IsShown r soft) is (certified_lem r n soft long);
      codeword = checks.0;
      broken = checks.1;
      scattered = λ sent s. subst (λ (d : Decided). IsTrue (is_certified d.verdict) × (d.bits ≡ sent)) is (scattered_lem r n soft sent s);
      clean = λ codeword. (
          let law = clean_lem r n soft codeword in
          let hard = sym is ∙ law.0 in
          (ap (λ (d : Decided). is_certified d.verdict) hard ∙ certified_by (is_strict r (unsplit_view r soft (hard_decision soft))), ap (λ (d : Decided). d.bits) hard, subst (λ (d : Decided). (d.verdict ≡ Sole) ↔ NoneIsZero soft) is law.1)
          );
    }
