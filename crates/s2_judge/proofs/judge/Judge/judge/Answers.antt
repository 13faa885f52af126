use Rattle.std.proofs.Common.{◌≡◌, ◌↔◌, IsTrue, List, ℤ, length, refl, ap, subst, ◌∙◌}
use Rattle.s2_matrix.specs.Code.{code_of, IsCodeword}
use Rattle.s2_check.specs.Cost.{IsMostLikely}
use Rattle.s2_check.specs.Hard.{hard_decision, NoneIsZero}
use Rattle.s2_check.specs.Strict.{IsSole}
use Rattle.s2_check.specs.Verdicts.{is_certified}
use Rattle.s2_check.specs.declared.verdict.Verdict.TheVariants.{Sole}
use Rattle.s2_check.proofs.Lists.{refilled}
use Rattle.s2_split.specs.Scattered.{IsScattered}
use Rattle.s2_judge.specs.Deciding.{decided, rounds_run, IsShown}
use Rattle.s2_judge.proofs.judge.Judge.judge.Goals as goal

pub returns : goal.returns
returns c =
    let r = c.args.self.now.rows in
    let n = c.args.self.now.tuning in
    let soft = c.args.soft.now in
    let before = c.args.self.now.soft in
    let verdict = c.decide.result in
    let bits = c.decide.new.self.bits in
    let was = c.decide.ensures in
    let values = refilled (length before) c.copy_from_slice.new.self before refl (c.copy_from_slice.ensures.len ∙ ap length c.soft_mut.ensures.is) ∙ c.copy_from_slice.ensures.after in
    let is = ap (decided r n) values in
    record {
      rows = was.rows;
      tuning = was.tuning;
      soft = was.soft ∙ values;
      verdict = was.verdict ∙ ap (λ d. d.verdict) is;
      bits = was.bits ∙ ap (λ d. d.bits) is;
      certificate = was.certificate ∙ ap (λ d. d.certificate) is;
      rounds = was.rounds ∙ ap (rounds_run r n) values;
      likely = subst (λ (xs : List ℤ). IsTrue (is_certified verdict) → IsMostLikely (code_of r) xs bits) values was.likely;
      sole = subst (λ (xs : List ℤ). verdict ≡ Sole → IsSole (code_of r) xs bits) values was.sole;
      certified = subst (λ (xs : List ℤ). IsShown r xs (record { verdict = verdict; bits = bits; certificate = c.decide.new.self.certificate })) values was.certified;
      codeword = was.codeword;
      broken = was.broken;
      scattered = λ sent. subst (λ (xs : List ℤ). IsScattered (code_of r) xs sent → IsTrue (is_certified verdict) × (bits ≡ sent)) values (was.scattered sent);
      clean = subst (λ (xs : List ℤ). IsCodeword (code_of r) (hard_decision xs) → IsTrue (is_certified verdict) × (bits ≡ hard_decision xs) × ((verdict ≡ Sole) ↔ NoneIsZero xs)) values was.clean;
    }
