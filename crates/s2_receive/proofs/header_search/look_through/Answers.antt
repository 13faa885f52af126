use Rattle.s2_receive.proofs.Names.{◌≡◌, ◌+◌, ◌-◌, ℕ, Bool, length, sym, ap, take, drop, subst, ◌∙◌, ◌||◌, nat_lt, max, Saw, found_as}
use Rattle.s2_receive.proofs.Headers.{restarted, begun, seen_none, seen_on, nothing_more, coded_there, dummy_there, none_left}
use Rattle.s2_receive.proofs.MetLemmas.{behind_or}
use Rattle.s2_receive.proofs.header_search.look_through.Goals.{then-behind, else-behind}
use Rattle.s2_receive.proofs.header_search.look_through.Goals as goal

pub look-init : goal.look-init
look-init c =
    let symbols = c.args.symbols.now in
    let inside : ℕ = c.args.inside in
    let some : Bool = nat_lt 0 inside in
    let again = restarted c.restart.new.self c.args.search.now.sought c.restart.ensures in
    let first : c.if-behind.behind ≡ (c.args.behind || some) = elim c.if-behind.branch [
      | then-behind w ↦ w.behind-is ∙ w.if-behind.true ∙ sym (ap (λ b. b || some) w.if-behind.true)
      | else-behind w ↦ w.behind-is ∙ sym (ap (λ b. b || some) w.if-behind.false)
    ] in (
      subst (Saw c.restart.new.self) (seen_none symbols inside) again.0,
      begun (found_as c.args.search.now.sought c.args.max_header_errors) symbols c.args.from inside c.args.behind c.args.skipped c.if-behind.behind (first ∙ sym (behind_or inside c.args.behind)),
      again.1,
    )

pub look-preserved-in-Nothing : goal.look-preserved-in-Nothing
look-preserved-in-Nothing c =
    let symbols = c.args.symbols.now in
    let finds = found_as c.args.search.now.sought c.args.max_header_errors in
    let looked = c.look.invariant.1 in
    let told = seen_on finds (found_as c.look.search.sought c.args.max_header_errors) symbols c.look.start c.look.at c.look.behind c.is_first-first.result (Saw c.found_with-found.new.search) c.found_with-found.result
    (ap (λ m. found_as m c.args.max_header_errors) c.look.invariant.2) c.is_first-first.ensures looked.order c.look-test.true (c.found_with-found.ensures.header (drop c.look.start (take c.look.at symbols)) c.look.invariant.0) in
    (told.0, nothing_more finds symbols looked c.is_first-first.ensures c.look-test.true (told.1 ∙ c.in-Nothing.is), c.found_with-found.ensures.same ∙ c.look.invariant.2)

pub returns-in-Coded-clause-scans : goal.returns-in-Coded-clause-scans
returns-in-Coded-clause-scans c =
    let symbols = c.args.symbols.now in
    let finds = found_as c.args.search.now.sought c.args.max_header_errors in
    let looked = c.look.invariant.1 in
    let told = seen_on finds (found_as c.look.search.sought c.args.max_header_errors) symbols c.look.start c.look.at c.look.behind c.is_first-first.result (Saw c.found_with-found.new.search) c.found_with-found.result
    (ap (λ m. found_as m c.args.max_header_errors) c.look.invariant.2) c.is_first-first.ensures looked.order c.look-test.true (c.found_with-found.ensures.header (drop c.look.start (take c.look.at symbols)) c.look.invariant.0) in
    rw c.extended.ensures (coded_there finds symbols looked c.is_first-first.ensures c.look-test.true (told.1 ∙ c.in-Coded.is))

pub look-preserved : goal.look-preserved
look-preserved c =
    let symbols = c.args.symbols.now in
    let finds = found_as c.args.search.now.sought c.args.max_header_errors in
    let looked = c.look.invariant.1 in
    let told = seen_on finds (found_as c.look.search.sought c.args.max_header_errors) symbols c.look.start c.look.at c.look.behind c.is_first-first.result (Saw c.found_with-found.new.search) c.found_with-found.result
    (ap (λ m. found_as m c.args.max_header_errors) c.look.invariant.2) c.is_first-first.ensures looked.order c.look-test.true (c.found_with-found.ensures.header (drop c.look.start (take c.look.at symbols)) c.look.invariant.0) in
    let again = restarted c.restart-in-Dummy.new.self c.found_with-found.new.search.sought c.restart-in-Dummy.ensures in
    let next : ℕ = c.look.at + 1 - 90 + 3330 in (
      subst (Saw c.restart-in-Dummy.new.self) (seen_none symbols next) again.0,
      rw c.extended-skipped.ensures (dummy_there finds symbols looked c.is_first-first.ensures c.look-test.true (told.1 ∙ c.in-Dummy.is)),
      again.1 ∙ c.found_with-found.ensures.same ∙ c.look.invariant.2,
    )

pub returns-clause-scans : goal.returns-clause-scans
returns-clause-scans c =
    let symbols = c.args.symbols.now in
    let finds = found_as c.args.search.now.sought c.args.max_header_errors in
    let place : ℕ = c.max-place.result in
    let is : place ≡ max c.look.start (length symbols - 89) = c.max-place.ensures ∙ ap (max c.look.start) c.saturating_sub.ensures in
    rw c.extended-2.ensures (none_left finds symbols c.look.invariant.1 place c.is_first.result c.is_first.ensures c.look-test.false is)
