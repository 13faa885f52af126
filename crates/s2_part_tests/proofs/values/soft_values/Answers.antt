use Rattle.std.proofs.Common.{rules, ◌≡◌, ℤ, ◌≤◌, ◌++◌, ◌∷◌, [], length, length-append, All, unsigned_abs, SFits, w16, ap, sym, subst, ◌∙◌, arith}
use Rattle.std.proofs.lemmas.Int.{ints, clamps, to_z-of_z}
use Rattle.std.proofs.lemmas.List.Elements.{All-push}
use Rattle.s2_mode.specs.Limits.{max_soft}
use Rattle.s2_minsum.specs.Decoding.{AreWithin}
use Rattle.s2_part_tests.proofs.values.soft_values.Goals as goal

pub loop-value-preserved : goal.loop-value-preserved
loop-value-preserved c =
    let P : ℤ → Type 0 = λ v. unsigned_abs v ≤ max_soft in
    let value = c.clamp.result in
    let small : unsigned_abs value ≤ max_soft = omega (arith, ints, clamps) in
    let fits : SFits w16 value = search rules in
    let pushed = c.in_ok-push.ensures.items ∙ ap (λ v. c.loop-value.soft.items ++ v ∷ []) (to_z-of_z w16 value fits) in
    record {
      long = ap length pushed ∙ omega (arith, length-append c.loop-value.soft.items (value ∷ []));
      small = subst (AreWithin max_soft) (sym pushed) (All-push P c.loop-value.soft.items value c.loop-value.invariant.small small);
    }
