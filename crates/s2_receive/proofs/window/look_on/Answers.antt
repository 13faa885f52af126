use Rattle.s2_receive.proofs.Names.{[], Some, None, true, length, take, arith, refl, length-take-le, passed_by, window_of, found_as}
use Rattle.s2_receive.proofs.Names.next
use Rattle.s2_receive.proofs.FindSteps.{told_on}
use Rattle.s2_receive.proofs.LastSymbols.{all_last, last-last}
use Rattle.s2_receive.proofs.window.look_on.Goals as goal

pub returns-then-skip_to_header-clause-takes : goal.returns-then-skip_to_header-clause-takes
returns-then-skip_to_header-clause-takes c = λ lost.
    let held = c.args.held.now in
    let buffer = c.args.buffer.now in
    let size = c.args.size in
    let mid = c.resume.new.held in
    let mid_buffer = c.resume.new.buffer in
    let stays = c.resume.ensures.stays c.if-resume.false in
    let long = length-take-le held.count buffer c.requires.count in
    let mid_long = length-take-le mid.count mid_buffer (omega (arith, stays.2, c.resume.ensures.long, c.requires.count)) in
    let takes = rw (c.resume.ensures.same, c.resume.ensures.long) at c.skip_to_header.ensures.moved in
    told_on (found_as c.args.search.now.sought c.args.max_header_errors) lost size (length buffer) (window_of held buffer) (window_of mid mid_buffer) (window_of c.skip_to_header.new.held c.skip_to_header.new.buffer) [] true
    (take size c.skip_to_header.new.buffer) None
    (λ coming any. c.resume.ensures.met lost coming (λ again few. absurd (omega (arith, long, few, c.if-held-buffer.false, (c.requires.rest again).0))))
    (omega (arith, stays.1, stays.2, long, mid_long)) (omega (arith, stays.1)) c.resume.ensures.skipped (takes c.if-skip_to_header.true size c.requires.size.0 c.requires.size.2 lost)

pub returns-clause-takes : goal.returns-clause-takes
returns-clause-takes c = λ lost.
    let held = c.args.held.now in
    let buffer = c.args.buffer.now in
    let size = c.args.size in
    let mid = c.resume.new.held in
    let mid_buffer = c.resume.new.buffer in
    let now = c.skip_to_header.new.held in
    let after = c.skip_to_header.new.buffer in
    let stays = c.resume.ensures.stays c.if-resume.false in
    let long = length-take-le held.count buffer c.requires.count in
    let mid_long = length-take-le mid.count mid_buffer (omega (arith, stays.2, c.resume.ensures.long, c.requires.count)) in
    let takes = rw (c.resume.ensures.same, c.resume.ensures.long) at c.skip_to_header.ensures.stands in
    told_on (found_as c.args.search.now.sought c.args.max_header_errors) lost size (length buffer) (window_of held buffer) (window_of mid mid_buffer) (passed_by (lost (take size (take now.count after))) size (window_of now after)) [] true
    (take size after) (Some (next.Frame now.at now.skipped))
    (λ coming any. c.resume.ensures.met lost coming (λ again few. absurd (omega (arith, long, few, c.if-held-buffer.false, (c.requires.rest again).0))))
    (omega (arith, stays.1, stays.2, long, mid_long)) (omega (arith, stays.1)) c.resume.ensures.skipped (takes c.if-skip_to_header.false size c.requires.size.0 c.requires.size.2 lost)

pub returns-then-held-buffer-clause-last : goal.returns-then-held-buffer-clause-last
returns-then-held-buffer-clause-last c =
    let held = c.args.held.now in all_last held.at (take held.count c.args.buffer.now) (window_of held c.args.buffer.now) refl refl

pub returns-then-skip_to_header-clause-last : goal.returns-then-skip_to_header-clause-last
returns-then-skip_to_header-clause-last c =
    let held = c.args.held.now in
    last-last held.at (take held.count c.args.buffer.now) (window_of c.resume.new.held c.resume.new.buffer) (window_of c.skip_to_header.new.held c.skip_to_header.new.buffer) c.resume.ensures.last c.skip_to_header.ensures.last

pub returns-clause-last : goal.returns-clause-last
returns-clause-last c =
    let held = c.args.held.now in
    last-last held.at (take held.count c.args.buffer.now) (window_of c.resume.new.held c.resume.new.buffer) (window_of c.skip_to_header.new.held c.skip_to_header.new.buffer) c.resume.ensures.last c.skip_to_header.ensures.last
