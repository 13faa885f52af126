use Rattle.std.proofs.Common.{◌≡◌, ◌++◌, ◌∷◌, ◌+◌, [], length, length-take-le, take, map, true, pos, sym, ap, ◌∙◌, arith}
use Rattle.std.proofs.lemmas.List.{length-map, length-drop, take_more}
use Rattle.s2_mode.specs.Symbols.{symbol, symbol_at}
use Rattle.s2_plframe.specs.Turns.{Search as SearchValue, search_of, sought_of, sides, recent, turn_of, first_least, wrong_at}
use Rattle.s2_plframe.specs.HeaderLaws.{seen_of}
use Rattle.s2_plframe.proofs.HeaderFacts.{seen_more}
use Rattle.s2_plframe.proofs.TurnFacts.{seen_whole}
use Rattle.s2_plframe.proofs.receive.turns.turn_of.Goals as goal

pub loop-k-preserved : goal.loop-k-preserved
loop-k-preserved c =
    let symbols = c.args.symbols.now in
    let k = c.loop-k.k in
    let next = symbol_at symbols k in
    let more : take k symbols ++ next ∷ [] ≡ take (k + 1) symbols = sym (take_more symbols k (symbol (pos 0) (pos 0)) (omega arith)) in
    c.feed-found.ensures.seen
    ∙ ap (λ (v : SearchValue). search_of v.sought (recent (v.seen ++ sides v.sought.turns next ∷ []))) c.loop-k.invariant
    ∙ ap (search_of (sought_of c.args.mode true)) (seen_more true (take k symbols) next ∙ ap (seen_of true) more)

pub turn-requires-clause-turns : goal.turn-requires-clause-turns
turn-requires-clause-turns c = ap (λ (v : SearchValue). v.sought.turns) c.loop-k.invariant

pub turn-requires-clause-full : goal.turn-requires-clause-full
turn-requires-clause-full c =
    let symbols = c.args.symbols.now in
    let all : c.loop-k.k ≡ 90 = omega arith in
    let long : length (take 90 symbols) ≡ 90 = length-take-le 90 symbols (omega arith) in
    ap (λ (v : SearchValue). length v.seen) c.loop-k.invariant ∙ ap (λ n. length (seen_of true (take n symbols))) all ∙ ap length (seen_whole (take 90 symbols) long) ∙ length-map (take 90 symbols) (sides true) ∙ long

pub returns-clause-is : goal.returns-clause-is
unfolding turn_of
returns-clause-is c =
    let symbols = c.args.symbols.now in
    let all : c.loop-k.k ≡ 90 = omega arith in
    let long : length (take 90 symbols) ≡ 90 = length-take-le 90 symbols (omega arith) in
    c.turn.ensures.is ∙ ap (λ (v : SearchValue). first_least (wrong_at v.sought.mode v.seen)) c.loop-k.invariant
    ∙ ap (λ n. first_least (wrong_at c.args.mode (seen_of true (take n symbols)))) all ∙ ap (λ s. first_least (wrong_at c.args.mode s)) (seen_whole (take 90 symbols) long)
