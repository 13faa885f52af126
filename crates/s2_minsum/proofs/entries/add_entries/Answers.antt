use Rattle.std.proofs.Common.{◌≡◌, ◌++◌, ◌+◌, ◌-◌, ◌*◌, map, take_all, get_or, ap, ◌∙◌, arith}
use Rattle.s2_mode.specs.Shape.{Shape}
use Rattle.s2_matrix.specs.Code.{code_of, members}
use Rattle.s2_minsum.specs.Layout.{entry_of}
use Rattle.s2_minsum.proofs.Made.{push_more}
use Rattle.s2_minsum.proofs.entries.add_entries.Goals as goal

pub loop-bit-preserved : goal.loop-bit-preserved
loop-bit-preserved c =
    let ms = c.members_at-members.result.now in
    let i = c.loop-bit.bit-index in
    c.in_ok-push.ensures.items ∙ push_more (entry_of c.args.matrix.now.shape) c.args.entries.now.items c.loop-bit.entries.items c.entry_of.result ms i (omega arith) c.loop-bit.invariant (c.entry_of.ensures ∙ ap (λ (s : Shape). entry_of s (get_or ms i 0)) c.shape-shape.ensures.is)

pub returns : goal.returns
returns c =
    let ms = c.members_at-members.result.now in
    let s = c.shape-shape.ensures.is in
    let check : c.args.r + (c.group.result - 1) * c.q.result ≡ c.args.r + (c.args.matrix.now.shape.group - 1) * c.args.matrix.now.shape.q = λ i. c.args.r + ((c.group.ensures.is ∙ ap (λ (x : Shape). x.group) s) i - 1) * (c.q.ensures.is ∙ ap (λ (x : Shape). x.q) s) i in
    let are = c.members_at-members.ensures.are ∙ ap (members (code_of c.args.matrix.now)) check in
    c.loop-bit.invariant ∙ ap (λ xs. c.args.entries.now.items ++ map (entry_of c.args.matrix.now.shape) xs) (take_all c.loop-bit.bit-index ms (omega arith) ∙ are)
