use Rattle.std.proofs.Common.{◌≡◌, ◌++◌, Err, take, subst, sym, rules}
use Rattle.std.proofs.lemmas.List.{take_rest}
use Rattle.s2_send.specs.Sender.{PutsInto}
use Rattle.s2_send.proofs.StreamSteps.{more_came, same_on, up_to}
use Rattle.s2_send.proofs.intake.Intake.put.Goals as goal

pub put-preserved : goal.put-preserved
put-preserved c =
    let (front, is, came, grew, same, good) = c.put.invariant in
    let n = c.in_ok-n.n in
    let (some, few, comes, grows, held) = c.in_ok-n.ensures.takes in
    let rest = c.put.rest.now in
    let (comes', grows', is') = more_came c.args.self.now c.put.self c.put_some.new.self c.args.bytes.now front rest is came grew n few comes grows in
    rw take_rest (front ++ take n rest, is', comes', grows', same_on c.args.self.now c.put.self c.put_some.new.self same c.in_ok-n.ensures.same, λ some. held)

pub returns-in_err-n-clause-puts : goal.returns-in_err-n-clause-puts
returns-in_err-n-clause-puts c =
    let (front, is, came, grew, same, good) = c.put.invariant in
    let told : c.from_residual.result ≡ Err c.in_err-n.field-0.0 = search rules in
    subst (PutsInto c.args.self.now c.put_some.new.self c.args.bytes.now) (sym told)
    (up_to c.args.self.now c.put.self c.put_some.new.self c.args.bytes.now front c.put.rest.now is came grew c.in_err-n.field-0.0 c.in_err-n.ensures.takes)
