use Rattle.std.proofs.Common.{arith, ◌≡◌, ◌∷◌, length, sym, ap₂, subst}
use Rattle.std.specs.Prelude.{true, false, replicate, ◌++◌}
use Rattle.s2_bch.specs.Words.{register_after, IsWordOf}
use Rattle.s2_bch.proofs.WordFacts.{encoded-is-word}
use Rattle.s2_bch.proofs.MessageFacts.{length-divided}
use Rattle.s2_bch.proofs.divider.encode_into.Goals as goal

pub returns : goal.returns
returns c t h e =
    let after = register_after t (replicate (length t) false) c.args.message.now in
    let long : length after ≡ length t = length-divided t c.args.message.now in
    let r : c.write.new.bits ≡ after = c.write.ensures after (omega arith) (c.divide.ensures t h) in
    subst (IsWordOf (true ∷ t) c.args.message.now) (sym (ap₂ (λ x y. x ++ y) c.copy_from_slice.ensures.after r))
    (encoded-is-word t c.args.message.now)
