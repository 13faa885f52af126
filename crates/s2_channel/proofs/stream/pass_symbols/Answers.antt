use Rattle.std.proofs.Common.{◌∙◌, length, ap, subst, arith}
use Rattle.std.specs.Io.KnownBytes.{Appends}
use Rattle.s2_mode.specs.Pieces.{AppendsPart}
use Rattle.s2_mode.specs.Symbols.{symbols_of}
use Rattle.s2_channel.specs.Noise.{drawn_for, noisy}
use Rattle.s2_channel.proofs.Streams.{moved_front, on_err, whole_part}
use Rattle.s2_channel.proofs.stream.pass_symbols.Goals as goal

pub returns-in_err-write_full-clause-drawn : goal.returns-in_err-write_full-clause-drawn
returns-in_err-write_full-clause-drawn g c =
    let same = ap symbols_of c.split_at_mut-whole.ensures.front ∙ whole_part c.args.filled c.args.block.now (omega (arith, c.requires.size, c.requires.filled)) in
    c.add_to_bytes.ensures.drawn ∙ ap (λ ss. drawn_for c.args.noise.now.strength (length ss) c.args.noise.now.generator) same

pub returns-in_err-write_full-clause-part : goal.returns-in_err-write_full-clause-part
returns-in_err-write_full-clause-part g c =
    let same = ap symbols_of c.split_at_mut-whole.ensures.front ∙ whole_part c.args.filled c.args.block.now (omega (arith, c.requires.size, c.requires.filled)) in
    let bytes = c.add_to_bytes.ensures.bytes ∙ ap (noisy c.args.noise.now.strength c.args.noise.now.generator) same in
    on_err _ _ (subst (λ bs. AppendsPart bs (g.W.CountedWrite.contents c.args.writer.now) (g.W.CountedWrite.contents c.write_full.new.writer)) bytes c.in_err-write_full.ensures.part)

pub returns-clause-rest : goal.returns-clause-rest
returns-clause-rest g c =
    moved_front c.args.filled c.add_to_bytes.new.bytes c.split_at_mut-whole.result.0.now c.split_at_mut-whole.result.1.now c.args.block.now c.copy_within.new.self
    c.add_to_bytes.auto.bytes c.split_at_mut-whole.ensures.front_len c.split_at_mut-whole.ensures.value (omega (arith, c.requires.size, c.requires.filled)) c.copy_within.ensures.after

pub returns-clause-written : goal.returns-clause-written
returns-clause-written g c =
    let same = ap symbols_of c.split_at_mut-whole.ensures.front ∙ whole_part c.args.filled c.args.block.now (omega (arith, c.requires.size, c.requires.filled)) in
    let bytes = c.add_to_bytes.ensures.bytes ∙ ap (noisy c.args.noise.now.strength c.args.noise.now.generator) same in
    subst (λ bs. Appends (g.W.CountedWrite.contents c.args.writer.now) (g.W.CountedWrite.contents c.write_full.new.writer) bs) bytes c.in_ok-write_full.ensures.bytes

pub returns-clause-drawn : goal.returns-clause-drawn
returns-clause-drawn g c =
    let same = ap symbols_of c.split_at_mut-whole.ensures.front ∙ whole_part c.args.filled c.args.block.now (omega (arith, c.requires.size, c.requires.filled)) in
    c.add_to_bytes.ensures.drawn ∙ ap (λ ss. drawn_for c.args.noise.now.strength (length ss) c.args.noise.now.generator) same
