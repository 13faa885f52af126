use Rattle.s2_serve.proofs.GivenLemmas.{can_count}
use Rattle.s2_serve.proofs.audit.audit_files.Goals as goal

pub audit_command-requires-clause-codewords : goal.audit_command-requires-clause-codewords
audit_command-requires-clause-codewords g c = can_count _ _ c.requires.codewords

pub audit_command-requires-clause-packets : goal.audit_command-requires-clause-packets
audit_command-requires-clause-packets g c = can_count _ _ c.requires.packets
