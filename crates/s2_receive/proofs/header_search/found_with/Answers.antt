use Rattle.s2_receive.proofs.Names.{◌≡◌, ◌∷◌, ◌++◌, [], true, List, ap, sym, ◌∙◌, Symbol, seen_of, Search, found_last, Saw, Sought, found_as}
use Rattle.s2_receive.proofs.Headers.{fed, met_behind}
use Rattle.s2_receive.proofs.header_search.found_with.Goals as goal

pub returns-then-first-clause-header : goal.returns-then-first-clause-header
unfolding Saw
returns-then-first-clause-header c = λ seen saw many.
    let old : Search = c.args.search.now in
    let new : Search = c.feed-found.new.self in
    let all : List Symbol = seen ++ c.args.symbol ∷ [] in
    let sought : new.sought ≡ old.sought = ap (λ s. s.sought) c.feed-found.ensures.seen in
    let held : new.seen ≡ seen_of new.sought.turns all = ap (λ s. s.seen) c.feed-found.ensures.seen ∙ (fed old.sought c.args.max_header_errors seen old.seen c.args.symbol saw).0
    ∙ ap (λ (s : Sought). seen_of s.turns all) (sym sought) in
    let told = met_behind new.sought c.args.max_header_errors all new.seen held (many c.if-first.true) in (
      held,
      c.behind.ensures.found told.0 ∙ told.1 ∙ ap (λ m. found_last (found_as m c.args.max_header_errors true) all) sought
          ∙ ap (λ b. found_last (found_as old.sought c.args.max_header_errors b) all) (sym c.if-first.true),
    )

pub returns-clause-header : goal.returns-clause-header
unfolding Saw
returns-clause-header c = λ seen saw many.
    let old : Search = c.args.search.now in
    let told = fed old.sought c.args.max_header_errors seen old.seen c.args.symbol saw in (
      ap (λ s. s.seen) c.feed-found.ensures.seen ∙ told.0 ∙ ap (λ (s : Search). seen_of s.sought.turns (seen ++ c.args.symbol ∷ [])) (sym c.feed-found.ensures.seen),
      c.feed-found.ensures.found ∙ told.1 ∙ ap (λ b. found_last (found_as old.sought c.args.max_header_errors b) (seen ++ c.args.symbol ∷ [])) (sym c.if-first.false),
    )
