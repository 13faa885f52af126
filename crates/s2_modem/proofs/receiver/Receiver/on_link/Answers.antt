use Rattle.s2_modem.proofs.Names.{◌≡◌, sym, subst, ◌∙◌, Link, link_of, setup_of, link_rules, KeepsHeadline}
use Rattle.s2_modem.proofs.receiver.Receiver.on_link.Goals as goal

pub invariant_of-result : goal.invariant_of-result
invariant_of-result c =
    let made = c.in_ok-inner.ensures in
    let same : c.args.link.now ≡ link_of (setup_of c.setup.result) c.matrix.result.now = sym (λ i. link_of (c.setup.ensures i) (c.matrix.ensures.is i)) in
    (made.rules ∙ (λ i. link_rules (same i) c.args.tuning (sym made.limit i)), subst (λ (l : Link). KeepsHeadline l c.args.tuning) same made.keeps)
