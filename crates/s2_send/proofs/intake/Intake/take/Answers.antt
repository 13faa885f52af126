use Rattle.std.proofs.Common.{◌+◌, subst, rules}
use Rattle.s2_bbframe.specs.DataStream.{IsReady}
use Rattle.s2_send.specs.Sender.{Stream, GivesField}
use Rattle.s2_send.proofs.StreamSteps.{gives_field}
use Rattle.s2_send.proofs.intake.Intake.take.Goals as goal

pub returns-clause-gives : goal.returns-clause-gives
returns-clause-gives c =
    let s : Stream = record { slicing = c.self.inside.slicer; held = c.self.inside.part; packets = c.self.inside.counts.packets; fields = c.self.inside.counts.frames; limit = c.self.inside.limit } in
    let new : Stream = record { slicing = c.take.new.self; held = s.held; packets = s.packets; fields = s.fields + 1; limit = s.limit } in
    let ready : IsReady s.slicing = search rules in
    subst (λ (x : Stream). GivesField c.args.roll_off x new c.in_ok-header.header) c.self.view_is
    (gives_field s c.args.roll_off c.take.new.self c.in_ok-header.header c.self.invariant.0 ready c.in_ok-header.ensures.takes c.in_ok-header.ensures.stream)
