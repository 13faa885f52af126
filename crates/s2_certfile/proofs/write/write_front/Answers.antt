use Rattle.std.proofs.Common.{rules, subst, List, ℕ}
use Rattle.s2_certfile.specs.Pages.{PutsThrough}
use Rattle.s2_certfile.proofs.write.write_front.Goals as goal

pub returns-clause-bytes : goal.returns-clause-bytes
returns-clause-bytes g c =
    let P : List ℕ → Type 0 = λ l. PutsThrough l (g.W.CountedWrite.contents c.args.out.now) (g.W.CountedWrite.contents c.put_all.new.out) c.args.page.now.items c.put_all.new.page.items c.put_all.result in
    subst P (search rules) c.put_all.ensures.bytes
