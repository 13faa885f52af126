use Rattle.std.proofs.Common.{refl, sym, ap, subst, ◌∙◌}
use Rattle.s2_split.specs.Making.{shared_views}
use Rattle.s2_split.proofs.Accepted.{held_made}
use Rattle.s2_judge.specs.declared.certifier.CertificateSource.{CertificateSource}
use Rattle.s2_judge.specs.Certifying.{Certifying, found_by, IsCertificateSource}
use Rattle.s2_judge.proofs.certifier.Certifier.held.Goals as goal

pub returns-in-Maker : goal.returns-in-Maker
returns-in-Maker c =
    let inside = c.self.inside in
    let maker = inside.maker in
    let r = inside.matrix.now in
    let soft = c.args.soft.now in
    let word = c.args.word.now in
    let some = subst (IsCertificateSource maker) c.in-Maker.is c.self.invariant.by in
    held_made r maker.rows soft word maker.made maker.made c.held.result c.self.invariant.maker_rows refl some c.held.ensures
    ∙ ap (λ (h : CertificateSource). shared_views r soft word (found_by maker inside.ascent h)) (sym c.in-Maker.is)
    ∙ ap (λ (k : Certifying). shared_views k.rows soft word k.found) c.self.view_is
