use Rattle.s2_channel.proofs.TableLemmas.{table}
use Rattle.s2_channel.proofs.laws.table.Goals as goal

pub returns : goal.returns
returns c = table
