use Rattle.std.proofs.Common.{◌≡◌, true, false}
use Rattle.s2_names.proofs.Codes.{no_code_line}
use Rattle.s2_names.proofs.listing.push_line.Goals as goal

pub returns-in_default : goal.returns-in_default
returns-in_default c =
    no_code_line c.args.rate.now c.args.modcod c.args.short c.args.text.now.items c.requires.some c.requires.most (λ is. let never : false ≡ true = c.in_default.ensures.found.1 is in absurd (cc))
