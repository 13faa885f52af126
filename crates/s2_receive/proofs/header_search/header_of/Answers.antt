use Rattle.s2_receive.proofs.Names.{◌≡◌, ◌∙◌, take, drop, false, ap, refl, sym, arith, take_all, Saw, found_as, found_last}
use Rattle.s2_receive.proofs.Headers.{restarted, seen_on, whole_header}
use Rattle.s2_receive.proofs.header_search.header_of.Goals as goal

pub look-init : goal.look-init
look-init c =
    let again = restarted c.restart.new.self c.args.search.now.sought c.restart.ensures in
    (again.0, refl, again.1, omega arith)

pub look-preserved : goal.look-preserved
look-preserved c =
    let symbols = c.args.symbols.now in
    let finds = found_as c.args.search.now.sought c.args.max_header_errors in
    let so = c.look.invariant in
    let told = seen_on finds (found_as c.look.search.sought c.args.max_header_errors) symbols 0 c.look.at false false (Saw c.found_with-found.new.search) c.found_with-found.result
    (ap (λ m. found_as m c.args.max_header_errors) so.2) refl (omega arith) c.look-test.true (c.found_with-found.ensures.header (drop 0 (take c.look.at symbols)) so.0) in
    (told.0, told.1, c.found_with-found.ensures.same ∙ so.2, omega (arith, c.look-test.true))

pub returns-clause-is : goal.returns-clause-is
returns-clause-is c =
    let symbols = c.args.symbols.now in
    let finds = found_as c.args.search.now.sought c.args.max_header_errors false in
    let all : take c.look.at symbols ≡ symbols = take_all c.look.at symbols (omega (arith, c.look-test.false)) in
    sym c.look.invariant.1 ∙ ap (found_last finds) all ∙ whole_header finds symbols c.requires
