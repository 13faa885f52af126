use Rattle.std.proofs.Common.{◌∙◌, sym, subst, append-nil}
use Rattle.s2_send.specs.Frames.{IsFrameOf}
use Rattle.s2_send.proofs.laws.no_dummies.Goals as goal

pub returns : goal.returns
returns c = λ link number header field bytes. (
  λ unit. subst (IsFrameOf link header field) (sym (unit.spelt ∙ append-nil unit.frame)) unit.is_frame,
  λ framed. record { frame = bytes; is_frame = framed; spelt = sym (append-nil bytes) },
)
