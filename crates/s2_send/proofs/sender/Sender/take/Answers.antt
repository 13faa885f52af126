use Rattle.std.proofs.Common.{◌≡◌, ◌/◌, ◌++◌, ap, subst, ◌∙◌, length, take, rules}
use Rattle.std.proofs.lemmas.List.{take_at}
use Rattle.s2_bbframe.specs.DataStream.{IsReady}
use Rattle.s2_send.specs.Frames.{sent_behind}
use Rattle.s2_send.specs.Sending.{is_due}
use Rattle.s2_send.specs.Sender.{Sender, MakesFrame}
use Rattle.s2_send.proofs.SenderSteps.{makes_frame}
use Rattle.s2_send.proofs.sender.Sender.take.Goals as goal

pub returns-clause-made : goal.returns-clause-made
returns-clause-made c = λ done.
    let inside = c.self.inside in
    let link = inside.framer.link in
    let s = inside.intake in
    let header = c.in-Some.header in
    let part = take c.from-bytes.result c.deref.result.now in
    let due = c.is_due-self-inside.result in
    let new : Sender = record {
      link = c.make.new.self.link;
      dummy_every = inside.dummy_every;
      stream = c.take.new.self;
      codeword = c.make.new.self.codeword;
      unit = c.make.new.self.bytes ++ sent_behind c.make.new.self.link due;
    } in
    let long : length c.take.new.field ≡ inside.field.len = search rules in
    let ready : IsReady s.slicing = search rules in
    subst (λ (x : Sender). MakesFrame x new) c.self.view_is
    (makes_frame link inside.dummy_every s inside.framer.codeword c.make.new.self.codeword (inside.framer.bytes ++ sent_behind link inside.is_dummy_due) c.make.new.self.bytes part c.get.result header due
    c.make.new.self.link c.take.new.self c.make.ensures.same c.in-Some.ensures.takes ready c.in-Some.ensures.gives (c.get.ensures.value ∙ c.roll_off.ensures.is)
    ((λ i. take (c.from-bytes.ensures i) (c.deref.ensures.value i)) ∙ (ap (take (header.dfl / 8)) (take_at c.take.new.field _ inside.field.len long) ∙ c.in-Some.ensures.field.2))
    (c.is_due-self-inside.ensures ∙ ap (λ x. is_due inside.dummy_every x.frames) c.counts.ensures.is) c.make.ensures.codeword c.make.ensures.frame)
