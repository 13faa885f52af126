use Rattle.std.proofs.Common.{◌≡◌, rules, subst}
use Rattle.std.specs.Io.KnownBytes.{Appends}
use Rattle.s2_audit.specs.Lines.{front_words, rest_words}
use Rattle.s2_audit.proofs.PrintLemmas.{prints_after}
use Rattle.s2_audit.proofs.printing.print_difference.Goals as goal

pub returns-clause-prints : goal.returns-clause-prints
returns-clause-prints g c =
    let front : c.as_bytes.result.now ≡ front_words c.args.difference = search rules in
    prints_after (front_words c.args.difference) (rest_words c.args.packets.now c.args.difference) _ _ _ _ (subst (Appends _ _) front c.in_ok-print_text.ensures.prints) c.print_rest.ensures.prints
