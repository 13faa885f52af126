use Rattle.std.proofs.Common.{◌≡◌, ◌∙◌, Bool, true, false, List, length, ap, sym, subst, arith}
use Rattle.s2_plframe.specs.Turns.{Search as SearchValue, Sides, sides, sought_of, search_of, recent, found_in, behind_in, nearest_of, first_least, wrong_at}
use Rattle.s2_plframe.specs.Search.{Decision, found, found_behind}
use Rattle.s2_plframe.specs.Inside.{IsWindow, AreWindows, held_list, sides_list}
use Rattle.s2_plframe.proofs.Windows.{behind_is, behind_each, straight_held, length-sides}
use Rattle.s2_plframe.proofs.receive.search.Search.behind.Goals as goal

pub returns-then-self-lt-HEADER_SYMBOLS-clause-found : goal.returns-then-self-lt-HEADER_SYMBOLS-clause-found
returns-then-self-lt-HEADER_SYMBOLS-clause-found c = λ few.
    let s = c.self.inside in
    let long = length-sides s.straight.odd s.straight.even s.opposite.odd s.opposite.even s.count in
    let same = ap (λ (v : SearchValue). length v.seen) c.self.view_is in
    absurd (omega (arith, long, same, few, c.if-self-lt-HEADER_SYMBOLS.true))

pub returns-then-self-clause-found : goal.returns-then-self-clause-found
returns-then-self-clause-found c = λ full.
    let s = c.self.inside in
    let windows = c.windows_of-windows.result in
    let seen : List Sides = sides_list s.straight.odd s.straight.even s.opposite.odd s.opposite.even s.count in
    let long = length-sides s.straight.odd s.straight.even s.opposite.odd s.opposite.even s.count in
    let same = ap (λ (v : SearchValue). length v.seen) c.self.view_is in
    let all : s.count ≡ 90 = omega (arith, long, same, full) in
    let are : AreWindows seen windows.none windows.one windows.two windows.three = subst (λ n. AreWindows (sides_list s.straight.odd s.straight.even s.opposite.odd s.opposite.even n) windows.none windows.one windows.two windows.three) (sym all) c.windows_of-windows.ensures in
    c.nearest_of.ensures
    ∙ ((λ t. nearest_of (c.least_wrong-coded.ensures t) (c.least_wrong_dummy.ensures t) (c.get.ensures.is t))
    ∙ (behind_each s.mode s.headers.coded s.headers.dummy s.headers.dummy_pilots s.headers.dummy_short s.headers.dummy_both c.self.invariant.headers seen windows.none windows.one windows.two windows.three are c.args.lock
    ∙ (ap (λ (b : Bool). behind_in (sought_of s.mode b) c.args.lock seen) (sym c.if-self.true) ∙ ap (λ (v : SearchValue). behind_in v.sought c.args.lock v.seen) c.self.view_is)))

pub returns-clause-found : goal.returns-clause-found
returns-clause-found c = λ full.
    let s = c.self.inside in
    let seen : List Sides = sides_list s.straight.odd s.straight.even s.opposite.odd s.opposite.even s.count in
    let held : List Decision = held_list s.straight.odd s.straight.even s.count in
    let long = length-sides s.straight.odd s.straight.even s.opposite.odd s.opposite.even s.count in
    let same = ap (λ (v : SearchValue). length v.seen) c.self.view_is in
    let all : s.count ≡ 90 = omega (arith, long, same, full) in
    let window : IsWindow held c.window-window.result = subst (λ n. IsWindow (held_list s.straight.odd s.straight.even n) c.window-window.result) (sym all) c.window-window.ensures in
    c.nearest_of-2.ensures
    ∙ ((λ t. nearest_of (c.wrong_in-coded.ensures t) (c.wrong_in_dummy.ensures t) (c.get-2.ensures.is t))
    ∙ (behind_is s.mode s.headers.coded s.headers.dummy s.headers.dummy_pilots s.headers.dummy_short s.headers.dummy_both c.args.lock held c.window-window.result c.self.invariant.headers window
    ∙ (ap (found_behind s.mode c.args.lock) (sym (straight_held s.straight.odd s.straight.even s.opposite.odd s.opposite.even s.count))
    ∙ (ap (λ (b : Bool). behind_in (sought_of s.mode b) c.args.lock seen) (sym c.if-self.false) ∙ ap (λ (v : SearchValue). behind_in v.sought c.args.lock v.seen) c.self.view_is))))

pub returns-then-self-clause-early : goal.returns-then-self-clause-early
returns-then-self-clause-early c = λ few.
    let s = c.self.inside in
    let long = length-sides s.straight.odd s.straight.even s.opposite.odd s.opposite.even s.count in
    let same = ap (λ (v : SearchValue). length v.seen) c.self.view_is in
    absurd (omega (arith, long, same, few, c.if-self-lt-HEADER_SYMBOLS.false))

pub returns-clause-early : goal.returns-clause-early
returns-clause-early c = λ few.
    let s = c.self.inside in
    let long = length-sides s.straight.odd s.straight.even s.opposite.odd s.opposite.even s.count in
    let same = ap (λ (v : SearchValue). length v.seen) c.self.view_is in
    absurd (omega (arith, long, same, few, c.if-self-lt-HEADER_SYMBOLS.false))
