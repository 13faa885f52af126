use Rattle.std.proofs.Common.{rules, ◌≡◌, List, true, take, All, SFits, w16, ℤ, subst, sym, ap, ◌∙◌}
use Rattle.std.specs.Int.{cast_signed, cast_unsigned}
use Rattle.std.proofs.lemmas.Int.{to_z-of_z}
use Rattle.std.proofs.lemmas.List.Elements.{All-push}
use Rattle.s2_certfile.specs.File.{IsSoft}
use Rattle.s2_certfile.proofs.Ranges.{soft_in_range}
use Rattle.s2_certfile.specs.Field.{entry}
use Rattle.s2_certfile.specs.Format.{soft}
use Rattle.s2_certfile.proofs.EntryLemmas.{next_rest, pushed_one, entry_passes}
use Rattle.s2_certfile.proofs.lists.soft_values.Goals as goal

pub loop-i-preserved : goal.loop-i-preserved
loop-i-preserved c =
    let i = c.loop-i.i in
    let bytes = c.args.bytes.now in
    let front : c.split_at.result.0.now ≡ entry soft.size bytes i = c.split_at.ensures.front ∙ ap (take soft.size) c.loop-i.invariant.rest in
    let fits : SFits w16 c.soft_of.result = search rules in
    let same : cast_signed w16 (cast_unsigned w16 c.soft_of.result) ≡ c.soft_of.result = to_z-of_z w16 c.soft_of.result fits in
    let passed : soft.test (entry soft.size bytes i) ≡ true = entry_passes (λ k. soft.test (entry soft.size bytes k)) c.args.n i c.requires.tests c.loop-i-test.true in
    let value = same ∙ c.soft_of.ensures ∙ ap soft.value front in
    let one = subst IsSoft (sym value) (soft_in_range (soft.value (entry soft.size bytes i)) passed) in
    let P : List ℤ → Type 0 = λ xs. All IsSoft xs in
    record {
      rest = c.split_at.ensures.back ∙ next_rest soft.size i bytes c.loop-i.rest.now c.loop-i.invariant.rest;
      values = pushed_one (λ k. soft.value (entry soft.size bytes k)) c.loop-i.values.items c.push.new.self.items i _ c.loop-i.invariant.values c.in_ok-push.ensures.items value;
      fit = subst P (sym c.in_ok-push.ensures.items) (All-push IsSoft c.loop-i.values.items _ c.loop-i.invariant.fit one);
    }
