use Rattle.s2_channel.proofs.TableLemmas.{read-entry, small}
use Rattle.s2_channel.proofs.table.entry.Goals as goal

pub returns-clause-value : goal.returns-clause-value
returns-clause-value c = rw c.from.ensures (read-entry c.args.byte c.ranges.byte.fits)

pub returns-clause-least : goal.returns-clause-least
returns-clause-least c = rw c.from.ensures ((small c.args.byte c.ranges.byte.fits).0)

pub returns-clause-most : goal.returns-clause-most
returns-clause-most c = rw c.from.ensures ((small c.args.byte c.ranges.byte.fits).1)
