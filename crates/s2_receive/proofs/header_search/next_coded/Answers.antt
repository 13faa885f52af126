use Rattle.s2_receive.proofs.Names.{◌∙◌, ◌<◌, length, take, drop, false, ap, refl, sym, subst, arith, Saw, found_as}
use Rattle.s2_receive.proofs.Headers.{restarted, seen_none, seen_on, none_coded_more, coded_next, never_coded}
use Rattle.s2_receive.proofs.LostFrames.{coded_by, other_by}
use Rattle.s2_receive.proofs.header_search.next_coded.Goals as goal

pub look-init : goal.look-init
look-init c =
    let again = restarted c.restart.new.self c.args.search.now.sought c.restart.ensures in
    (subst (Saw c.restart.new.self) (seen_none c.args.symbols.now c.args.start) again.0, λ i le at. absurd (omega (arith, le, at)), again.1, omega arith)

pub look-preserved : goal.look-preserved
look-preserved c =
    let symbols = c.args.symbols.now in
    let finds = found_as c.args.search.now.sought c.args.max_header_errors in
    let so = c.look.invariant in
    let more : c.look.at < length symbols = omega (arith, c.look-test.true, c.min-end.ensures) in
    let told = seen_on finds (found_as c.look.search.sought c.args.max_header_errors) symbols c.args.start c.look.at false false (Saw c.found_with-found.new.search) c.found_with-found.result
    (ap (λ m. found_as m c.args.max_header_errors) so.2) refl so.3 more (c.found_with-found.ensures.header (drop c.args.start (take c.look.at symbols)) so.0) in
    (told.0, none_coded_more finds symbols c.args.start c.look.at c.found_with-found.result so.3 more so.1 told.1 (other_by c.found_with-found.result (sym c.is_coded.ensures ∙ c.if-is_coded.false)), c.found_with-found.ensures.same ∙ so.2, omega (arith, so.3))

pub returns-then-is_coded-clause-next : goal.returns-then-is_coded-clause-next
returns-then-is_coded-clause-next c =
    let symbols = c.args.symbols.now in
    let finds = found_as c.args.search.now.sought c.args.max_header_errors in
    let so = c.look.invariant in
    let more : c.look.at < length symbols = omega (arith, c.look-test.true, c.min-end.ensures) in
    let told = seen_on finds (found_as c.look.search.sought c.args.max_header_errors) symbols c.args.start c.look.at false false (Saw c.found_with-found.new.search) c.found_with-found.result
    (ap (λ m. found_as m c.args.max_header_errors) so.2) refl so.3 more (c.found_with-found.ensures.header (drop c.args.start (take c.look.at symbols)) so.0) in
    coded_next finds symbols c.args.start c.look.at c.args.before so.3 more (omega (arith, c.look-test.true, c.min-end.ensures)) so.1
    (told.1 ∙ coded_by c.found_with-found.result (sym c.is_coded.ensures ∙ c.if-is_coded.true))

pub returns-clause-next : goal.returns-clause-next
returns-clause-next c =
    let symbols = c.args.symbols.now in
    let finds = found_as c.args.search.now.sought c.args.max_header_errors in
    never_coded finds symbols c.args.start c.look.at c.args.before c.requires.places.0 (omega (arith, c.look-test.false, c.min-end.ensures)) c.look.invariant.1
