use Rattle.std.proofs.Common.{◌≡◌, ◌≢◌, ◌<◌, ◌+◌, Ok, sym, ap, subst, ◌∙◌, rules, length}
use Rattle.std.specs.Prelude.{slice_index}
use Rattle.s2_bbframe.specs.DataStream.{IsPacket, IsReady, after_packet}
use Rattle.s2_send.specs.Hints.{size_told}
use Rattle.s2_send.specs.Sender.{Stream, TakesUpTo, TakesSome}
use Rattle.s2_send.specs.declared.outcome.SendFault.TheVariants.{NoSync}
use Rattle.s2_send.proofs.StreamSteps.{is_packet, takes_packet, refused_packet}
use Rattle.s2_send.proofs.intake.Intake.put_some.Goals as goal

pub returns-in_default-put-clause-takes : goal.returns-in_default-put-clause-takes
returns-in_default-put-clause-takes c =
    let s : Stream = record { slicing = c.self.inside.slicer; held = c.self.inside.part; packets = c.self.inside.counts.packets; fields = c.self.inside.counts.frames; limit = c.self.inside.limit } in
    let new : Stream = record { slicing = c.put.new.self; held = c.add-n.new.self; packets = c.self.inside.counts.packets; fields = c.self.inside.counts.frames; limit = c.self.inside.limit } in
    let same : c.in-Some.packet.now ≡ c.add-n.new.self = c.in-Some.ensures.is in
    let whole : length c.add-n.new.self ≡ 188 = search rules in
    let no_sync : slice_index c.in-Some.packet.now 0 ≢ 71 = search rules in
    let few : c.self.inside.counts.packets < c.self.inside.limit = search rules in
    let told = size_told (c.self.inside.counts.packets + 1) c.in-Some.packet.now in
    let fault : c.no_sync.result ≡ NoSync (c.self.inside.counts.packets + 1) told = c.no_sync.ensures in
    subst (λ (x : Stream). TakesUpTo x new c.args.bytes.now c.no_sync.result) c.self.view_is
    (subst (TakesUpTo s new c.args.bytes.now) (sym fault)
    (refused_packet s c.put.new.self c.add-n.new.self c.args.bytes.now c.add-n.result told c.in_default-put.ensures.refused c.add-n.ensures.few c.add-n.ensures.adds
    few (subst (λ (x : Stream). IsReady x.slicing → ⊥) (sym c.self.view_is) c.requires.not_ready) whole (λ e. no_sync (ap (λ l. slice_index l 0) same ∙ e)) (ap (size_told (c.self.inside.counts.packets + 1)) same)))

pub invariant_of-self-2 : goal.invariant_of-self-2
invariant_of-self-2 c =
    let s : Stream = record { slicing = c.self.inside.slicer; held = c.self.inside.part; packets = c.self.inside.counts.packets; fields = c.self.inside.counts.frames; limit = c.self.inside.limit } in
    let h = c.in-Some.packet.now in
    let packet : IsPacket h = search rules in
    let after : c.put.new.self ≡ after_packet h s.slicing = c.in-Ok.ensures.packet in
    let few : s.packets < s.limit = search rules in (
      is_packet s c.put.new.self h c.clear.new.self packet after c.clear.ensures (ap (λ (x : Stream). x.slicing.closed) c.self.view_is ∙ c.requires.open) c.self.invariant.0 few
          (subst (λ (x : Stream). IsReady x.slicing → ⊥) (sym c.self.view_is) c.requires.not_ready),
      ap (λ x. x.closed) after ∙ c.self.invariant.1,
    )

pub returns-clause-takes : goal.returns-clause-takes
returns-clause-takes c =
    let s : Stream = record { slicing = c.self.inside.slicer; held = c.self.inside.part; packets = c.self.inside.counts.packets; fields = c.self.inside.counts.frames; limit = c.self.inside.limit } in
    let h = c.in-Some.packet.now in
    let packet : IsPacket h = search rules in
    let after : c.put.new.self ≡ after_packet h s.slicing = c.in-Ok.ensures.packet in
    let new : Stream = record { slicing = c.put.new.self; held = c.clear.new.self; packets = s.packets + 1; fields = s.fields; limit = s.limit } in
    subst (λ (x : Stream). TakesSome x new c.args.bytes.now (Ok c.add-n.result)) c.self.view_is
    (takes_packet s c.put.new.self h c.clear.new.self c.args.bytes.now c.add-n.result c.self.invariant.0 c.add-n.ensures.few (c.in-Some.ensures.is ∙ c.add-n.ensures.adds) packet after c.in-Ok.ensures.stream
    (ap (λ (x : Stream). x.slicing.closed) c.self.view_is ∙ c.requires.open) c.clear.ensures)
