use Rattle.std.proofs.Common.{sym, ap, ◌∙◌}
use Rattle.s2_certfile.specs.declared.version.Version.{Version}
use Rattle.s2_certfile.specs.Format.{split}
use Rattle.s2_certfile.proofs.EntryLemmas.{listed_pass}
use Rattle.s2_certfile.proofs.contents.is_split.Goals as goal

pub returns-in-Listed : goal.returns-in-Listed
returns-in-Listed c =
    sym (ap (λ (v : Version). (split v c.args.header.now.count).test c.args.bytes.now) c.in-Listed.is ∙ listed_pass c.args.header.now.count c.args.bytes.now)
