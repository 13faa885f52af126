use Rattle.std.proofs.Common.{rules}
use Rattle.s2_report.proofs.EntryLemmas.{no_words}
use Rattle.s2_report.proofs.entry.first_word.Goals as goal

pub returns-then-is_empty-clause-none : goal.returns-then-is_empty-clause-none
returns-then-is_empty-clause-none c = no_words c.args.line.now (search rules)
