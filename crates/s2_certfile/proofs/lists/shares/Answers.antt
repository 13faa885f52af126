use Rattle.std.proofs.Common.{rules, ◌≡◌, List, take, All, FitsSigned, SFits, w32, ℤ, subst, sym, ap, ◌∙◌}
use Rattle.std.specs.Int.{cast_signed, cast_unsigned}
use Rattle.std.proofs.lemmas.Int.{to_z-of_z}
use Rattle.std.proofs.lemmas.List.Elements.{All-push}
use Rattle.s2_certfile.specs.Field.{entry}
use Rattle.s2_certfile.specs.Format.{share}
use Rattle.s2_certfile.proofs.EntryLemmas.{next_rest, pushed_one}
use Rattle.s2_certfile.proofs.lists.shares.Goals as goal

pub loop-i-preserved : goal.loop-i-preserved
loop-i-preserved c =
    let i = c.loop-i.i in
    let bytes = c.args.bytes.now in
    let front : c.split_at.result.0.now ≡ entry share.size bytes i = c.split_at.ensures.front ∙ ap (take share.size) c.loop-i.invariant.rest in
    let fits : SFits w32 c.share_of.result = search rules in
    let same : cast_signed w32 (cast_unsigned w32 c.share_of.result) ≡ c.share_of.result = to_z-of_z w32 c.share_of.result fits in
    let value = same ∙ c.share_of.ensures ∙ ap share.value front in
    let F : ℤ → Type 0 = λ z. FitsSigned w32 z in
    let one = subst F (sym same) fits in
    let P : List ℤ → Type 0 = λ xs. All (FitsSigned w32) xs in
    record {
      rest = c.split_at.ensures.back ∙ next_rest share.size i bytes c.loop-i.rest.now c.loop-i.invariant.rest;
      values = pushed_one (λ k. share.value (entry share.size bytes k)) c.loop-i.values.items c.push.new.self.items i _ c.loop-i.invariant.values c.in_ok-push.ensures.items value;
      fit = subst P (sym c.in_ok-push.ensures.items) (All-push (FitsSigned w32) c.loop-i.values.items _ c.loop-i.invariant.fit one);
    }
