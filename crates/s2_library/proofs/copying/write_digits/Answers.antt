use Rattle.std.proofs.Common.{◌≡◌, false, length, arith, sym, ◌∙◌}
use Rattle.std.proofs.lemmas.List.{same_lists, length-map, get_or-map, get_or_default}
use Rattle.s2_library.specs.Copying.{digit, digits_of}
use Rattle.s2_library.proofs.copying.write_digits.Goals as goal

pub returns : goal.returns
returns c =
    let bits = c.args.bits.now in
    let out = c.loop-i.out in
    let same : length out ≡ length bits = omega arith in
    same_lists out (digits_of bits) (same ∙ sym (length-map bits digit)) (λ k d h. get_or_default out k d 0 h ∙ c.loop-i.invariant k (omega arith) ∙ sym (get_or-map digit bits k false d (omega arith)))
