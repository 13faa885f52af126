use Rattle.std.proofs.Common.{rules}
use Rattle.s2_audit.proofs.PrintLemmas.{cut_packet}
use Rattle.s2_audit.proofs.printing.packet_at.Goals as goal

pub returns-clause-is : goal.returns-clause-is
returns-clause-is c = cut_packet _ _ _ _ c.requires (search rules) (search rules)
