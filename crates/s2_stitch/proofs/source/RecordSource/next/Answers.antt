use Rattle.std.proofs.Common.{refl, rules}
use Rattle.s2_stitch.specs.Sources.{IsOpen}
use Rattle.s2_stitch.proofs.SourceLemmas.{gives_fault, gives_frame}
use Rattle.s2_stitch.proofs.source.RecordSource.next.Goals as goal

pub returns-in-Ok : goal.returns-in-Ok
returns-in-Ok g c =
    let is_open : IsOpen c.args.at c.args.self.now = (search rules, search rules) in
    gives_frame c.args.at _ _ c.in-Ok.frame (search rules) is_open (search rules) (search rules) (search rules)

pub returns-in-Err : goal.returns-in-Err
returns-in-Err g c =
    let is_open : IsOpen c.args.at c.args.self.now = (search rules, search rules) in
    gives_fault c.args.at _ _ c.in-Err.fault (search rules) is_open refl (search rules)
