use Rattle.s2_channel.proofs.Silence.{silent, silent_stream}
use Rattle.s2_channel.proofs.laws.silent.Goals as goal

pub returns-clause-symbol : goal.returns-clause-symbol
returns-clause-symbol c = silent

pub returns-clause-stream : goal.returns-clause-stream
returns-clause-stream c = silent_stream
