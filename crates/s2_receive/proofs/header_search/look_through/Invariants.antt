use Rattle.s2_receive.proofs.Names.{◌≡◌, ◌-◌, length, take, drop, Saw, found_as}
use Rattle.s2_receive.proofs.Headers.{Looked}
use Rattle.s2_receive.proofs.header_search.look_through.Given as goal

-- no coded frame begins in the symbols so far, and those behind the last dummy frame were seen
abbrev pub invariant-look : goal.invariant-look
invariant-look l =
    Saw l.search (drop l.start (take l.at l.symbols))
    × Looked (found_as l.fn.search.sought l.max_header_errors) l.symbols l.from l.inside l.fn.behind l.fn.skipped l.start l.at l.behind l.skipped
    × (l.search.sought ≡ l.fn.search.sought)

abbrev pub decreases-look : goal.decreases-look
decreases-look l = length l.symbols - l.at
