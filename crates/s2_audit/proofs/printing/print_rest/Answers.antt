use Rattle.std.proofs.Common.{◌≡◌, rules, subst}
use Rattle.s2_audit.specs.Lines.{back_words, packet_shown}
use Rattle.s2_audit.specs.Steps.{PrintsText}
use Rattle.s2_audit.proofs.PrintLemmas.{prints_after}
use Rattle.s2_audit.proofs.printing.print_rest.Goals as goal

pub returns-clause-prints : goal.returns-clause-prints
returns-clause-prints g c =
    let back : c.as_bytes.result.now ≡ back_words c.args.difference = search rules in
    prints_after (packet_shown c.args.packets.now c.args.difference) (back_words c.args.difference) _ _ _ _ c.in_ok-print_shown.ensures.prints (subst (λ l. PrintsText l (g.O.CountedWrite.contents c.print_shown.new.out) (g.O.CountedWrite.contents c.print_text.new.out) c.print_text.result) back c.print_text.ensures.prints)
