use Rattle.s2_receive.proofs.Names.{◌≤◌, ◌∙◌, ap, subst, sym, reached, met_of, delivered_of, IsDecidedBy}
use Rattle.s2_receive.proofs.HalfLemmas.{found_advances, none_advances, same_on, says_so}
use Rattle.s2_receive.proofs.receiver_core.advance_by.Goals as goal

pub returns-in-Some-clause-none : goal.returns-in-Some-clause-none
returns-in-Some-clause-none g c =
    let e = c.decided.ensures in
    let d = g.D.Decide.last c.decide_found.new.decider in
    let says = says_so c.decided.result c.field.result.now d e.verdict e.outcome e.figures e.energy e.turn (ap (delivered_of c.decided.result.header) c.field.ensures ∙ e.delivered) in
    (c.settle.ensures.settles d says).none

pub returns-in-Some-clause-follows : goal.returns-in-Some-clause-follows
returns-in-Some-clause-follows g c =
    let e = c.decided.ensures in
    let d = g.D.Decide.last c.decide_found.new.decider in
    let says = says_so c.decided.result c.field.result.now d e.verdict e.outcome e.figures e.energy e.turn (ap (delivered_of c.decided.result.header) c.field.ensures ∙ e.delivered) in
    same_on c.args.follower.now c.seek.new.self c.settle.new.self c.in-Some.ensures.seeks.same (c.settle.ensures.settles d says).same

pub returns-in-Some-clause-advances : goal.returns-in-Some-clause-advances
returns-in-Some-clause-advances g c =
    let old = c.args.follower.now in
    let mid = c.seek.new.self in
    let new = c.settle.new.self in
    let found = c.in-Some.next in
    let e = c.decided.ensures in
    let decide = g.D.Decide.decide c.args.decider.now in
    let d = g.D.Decide.last c.decide_found.new.decider in
    let says = says_so c.decided.result c.field.result.now d e.verdict e.outcome e.figures e.energy e.turn (ap (delivered_of c.decided.result.header) c.field.ensures ∙ e.delivered) in
    let settles = c.settle.ensures.settles d says in
    let decided = subst (λ l. IsDecidedBy decide (met_of found l) d) c.frame.ensures.is c.decide_found.ensures.decided in
    found_advances decide (g.D.Decide.decide c.decide_found.new.decider) old mid new c.args.bytes.now found (g.D.Decide.last c.args.decider.now) d c.settle.result c.requires.room c.in-Some.ensures.seeks decided c.decide_found.ensures.kept settles
    (subst (λ n. reached new.state.window ≤ n) (same_on old mid new c.in-Some.ensures.seeks.same settles.same).limit c.settle.ensures.bounded)

pub returns-in-None-clause-advances : goal.returns-in-None-clause-advances
returns-in-None-clause-advances g c =
    let old = c.args.follower.now in
    let new = c.seek.new.self in
    let decide = g.D.Decide.decide c.args.decider.now in
    none_advances decide decide old new c.args.bytes.now (g.D.Decide.last c.args.decider.now) c.at_rest.result c.in-None.ensures.seeks (subst (λ n. reached new.state.window ≤ n) c.in-None.ensures.seeks.same.limit c.in-None.ensures.bounded)
    (λ over. c.at_rest.ensures.ended (c.phase.ensures.is ∙ over)) (λ other. c.at_rest.ensures.other (λ over. other (sym c.phase.ensures.is ∙ over)))
