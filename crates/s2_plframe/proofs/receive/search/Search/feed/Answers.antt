use Rattle.std.proofs.Common.{◌≡◌, ◌<◌, ◌++◌, [], ◌∷◌, ◌∙◌, Bool, true, false, List, length, ap, sym, subst, arith}
use Rattle.s2_plframe.specs.Turns.{Search as SearchValue, Sides, sides, sought_of, search_of, recent, found_in, behind_in, nearest_of, first_least, wrong_at}
use Rattle.s2_plframe.specs.Search.{Decision, found, found_behind}
use Rattle.s2_plframe.specs.Inside.{IsWindow, AreWindows, held_list, sides_list}
use Rattle.s2_plframe.proofs.Windows.{seen_after, window_is, found_is, found_each, found_early, straight_held, length-held, length-sides}
use Rattle.s2_plframe.proofs.receive.search.Search.feed.Goals as goal

pub returns-then-self-lt-HEADER_SYMBOLS-clause-seen : goal.returns-then-self-lt-HEADER_SYMBOLS-clause-seen
returns-then-self-lt-HEADER_SYMBOLS-clause-seen c =
    let s = c.self.inside in
    let turns = s.turns in
    let straight = c.with-self-inside.result in
    let opposite = c.opposite_after-self-inside.result in
    let count = c.min-self-inside.result in
    let next : sides_list straight.odd straight.even opposite.odd opposite.even count ≡ recent (sides_list s.straight.odd s.straight.even s.opposite.odd s.opposite.even s.count ++ sides turns c.args.symbol ∷ []) =
    seen_after turns c.args.symbol s.straight.odd s.straight.even s.opposite.odd s.opposite.even straight.odd straight.even opposite.odd opposite.even s.count count c.self.invariant.few
    c.with-self-inside.ensures.newest c.with-self-inside.ensures.others c.opposite_after-self-inside.ensures.newest c.opposite_after-self-inside.ensures.others c.min-self-inside.ensures in
    ap (search_of (sought_of s.mode turns)) next ∙ ap (λ (v : SearchValue). search_of v.sought (recent (v.seen ++ sides v.sought.turns c.args.symbol ∷ []))) c.self.view_is

pub returns-then-self-lt-HEADER_SYMBOLS-clause-found : goal.returns-then-self-lt-HEADER_SYMBOLS-clause-found
returns-then-self-lt-HEADER_SYMBOLS-clause-found c =
    let straight = c.with-self-inside.result in
    let opposite = c.opposite_after-self-inside.result in
    let seen : List Sides = sides_list straight.odd straight.even opposite.odd opposite.even c.min-self-inside.result in
    let long : length seen ≡ c.min-self-inside.result = length-sides straight.odd straight.even opposite.odd opposite.even c.min-self-inside.result in
    let few : length seen < 90 = omega arith in
    found_early (sought_of c.self.inside.mode c.self.inside.turns) seen few ∙ ap (λ (v : SearchValue). found_in v.sought v.seen) (returns-then-self-lt-HEADER_SYMBOLS-clause-seen c)

pub returns-then-self-clause-seen : goal.returns-then-self-clause-seen
returns-then-self-clause-seen c =
    let s = c.self.inside in
    let turns = s.turns in
    let straight = c.with-self-inside.result in
    let opposite = c.opposite_after-self-inside.result in
    let count = c.min-self-inside.result in
    let next : sides_list straight.odd straight.even opposite.odd opposite.even count ≡ recent (sides_list s.straight.odd s.straight.even s.opposite.odd s.opposite.even s.count ++ sides turns c.args.symbol ∷ []) =
    seen_after turns c.args.symbol s.straight.odd s.straight.even s.opposite.odd s.opposite.even straight.odd straight.even opposite.odd opposite.even s.count count c.self.invariant.few
    c.with-self-inside.ensures.newest c.with-self-inside.ensures.others c.opposite_after-self-inside.ensures.newest c.opposite_after-self-inside.ensures.others c.min-self-inside.ensures in
    ap (search_of (sought_of s.mode turns)) next ∙ ap (λ (v : SearchValue). search_of v.sought (recent (v.seen ++ sides v.sought.turns c.args.symbol ∷ []))) c.self.view_is

pub returns-then-self-clause-found : goal.returns-then-self-clause-found
returns-then-self-clause-found c =
    let s = c.self.inside in
    let straight = c.with-self-inside.result in
    let opposite = c.opposite_after-self-inside.result in
    let count = c.min-self-inside.result in
    let windows = c.windows_of.result in
    let seen : List Sides = sides_list straight.odd straight.even opposite.odd opposite.even count in
    let all : count ≡ 90 = omega arith in
    let full : length seen ≡ 90 = length-sides straight.odd straight.even opposite.odd opposite.even count ∙ all in
    let are : AreWindows seen windows.none windows.one windows.two windows.three = subst (λ n. AreWindows (sides_list straight.odd straight.even opposite.odd opposite.even n) windows.none windows.one windows.two windows.three) (sym all) c.windows_of.ensures in
    c.found_turned.ensures
    ∙ (found_each s.mode s.headers.coded s.headers.dummy s.headers.dummy_pilots s.headers.dummy_short s.headers.dummy_both c.self.invariant.headers seen windows.none windows.one windows.two windows.three are full
    ∙ (ap (λ (b : Bool). found_in (sought_of s.mode b) seen) (sym c.if-self.true) ∙ ap (λ (v : SearchValue). found_in v.sought v.seen) (returns-then-self-clause-seen c)))

pub returns-clause-seen : goal.returns-clause-seen
returns-clause-seen c =
    let s = c.self.inside in
    let turns = s.turns in
    let straight = c.with-self-inside.result in
    let opposite = c.opposite_after-self-inside.result in
    let count = c.min-self-inside.result in
    let next : sides_list straight.odd straight.even opposite.odd opposite.even count ≡ recent (sides_list s.straight.odd s.straight.even s.opposite.odd s.opposite.even s.count ++ sides turns c.args.symbol ∷ []) =
    seen_after turns c.args.symbol s.straight.odd s.straight.even s.opposite.odd s.opposite.even straight.odd straight.even opposite.odd opposite.even s.count count c.self.invariant.few
    c.with-self-inside.ensures.newest c.with-self-inside.ensures.others c.opposite_after-self-inside.ensures.newest c.opposite_after-self-inside.ensures.others c.min-self-inside.ensures in
    ap (search_of (sought_of s.mode turns)) next ∙ ap (λ (v : SearchValue). search_of v.sought (recent (v.seen ++ sides v.sought.turns c.args.symbol ∷ []))) c.self.view_is

pub returns-clause-found : goal.returns-clause-found
returns-clause-found c =
    let s = c.self.inside in
    let straight = c.with-self-inside.result in
    let opposite = c.opposite_after-self-inside.result in
    let count = c.min-self-inside.result in
    let seen : List Sides = sides_list straight.odd straight.even opposite.odd opposite.even count in
    let held : List Decision = held_list straight.odd straight.even count in
    let all : count ≡ 90 = omega arith in
    let full : length held ≡ 90 = length-held straight.odd straight.even count ∙ all in
    let window : IsWindow held c.window.result = subst (λ n. IsWindow (held_list straight.odd straight.even n) c.window.result) (sym all) c.window.ensures in
    c.found_by.ensures
    ∙ (found_is s.mode s.headers.coded s.headers.dummy s.headers.dummy_pilots s.headers.dummy_short s.headers.dummy_both held c.window.result c.self.invariant.headers full window
    ∙ (ap (found s.mode) (sym (straight_held straight.odd straight.even opposite.odd opposite.even count))
    ∙ (ap (λ (b : Bool). found_in (sought_of s.mode b) seen) (sym c.if-self.false) ∙ ap (λ (v : SearchValue). found_in v.sought v.seen) (returns-clause-seen c))))
