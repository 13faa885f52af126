use Rattle.std.proofs.Common.{◌≡◌, ◌∙◌, List, length, ap, sym, subst, arith}
use Rattle.s2_plframe.specs.Turns.{Search as SearchValue, Sides, sides, sought_of, search_of, recent, found_in, behind_in, nearest_of, first_least, wrong_at}
use Rattle.s2_plframe.specs.Search.{Decision, found, found_behind}
use Rattle.s2_plframe.specs.Inside.{IsWindow, AreWindows, held_list, sides_list}
use Rattle.s2_plframe.proofs.Windows.{first_each, length-sides}
use Rattle.s2_plframe.proofs.receive.search.Search.turn.Goals as goal

pub returns-clause-is : goal.returns-clause-is
returns-clause-is c =
    let s = c.self.inside in
    let windows = c.windows_of.result in
    let seen : List Sides = sides_list s.straight.odd s.straight.even s.opposite.odd s.opposite.even s.count in
    let long = length-sides s.straight.odd s.straight.even s.opposite.odd s.opposite.even s.count in
    let same = ap (λ (v : SearchValue). length v.seen) c.self.view_is in
    let all : s.count ≡ 90 = omega (arith, long, same, c.requires.full) in
    let are : AreWindows seen windows.none windows.one windows.two windows.three = subst (λ n. AreWindows (sides_list s.straight.odd s.straight.even s.opposite.odd s.opposite.even n) windows.none windows.one windows.two windows.three) (sym all) c.windows_of.ensures in
    c.turn_by.ensures.is
    ∙ (first_each s.mode s.headers.coded s.headers.dummy s.headers.dummy_pilots s.headers.dummy_short s.headers.dummy_both c.self.invariant.headers seen windows.none windows.one windows.two windows.three are
    ∙ ap (λ (v : SearchValue). first_least (wrong_at v.sought.mode v.seen)) c.self.view_is)
