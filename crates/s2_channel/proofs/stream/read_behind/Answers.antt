use Rattle.s2_channel.proofs.Streams.{read_middle}
use Rattle.s2_channel.proofs.stream.read_behind.Goals as goal

pub returns-clause-bytes : goal.returns-clause-bytes
returns-clause-bytes g c = read_middle c.read.result _ _ c.split_at_mut-behind.result.0.now c.read.new.buf c.split_at_mut-room.result.1.now c.args.held c.split_at_mut-behind.ensures.front_len
    c.read.ensures.bytes c.read.ensures.bound
