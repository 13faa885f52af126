use Rattle.s2_receive.proofs.Names.{◌≡◌, ◌≤◌, ◌-◌, take, drop, Saw, found_as}
use Rattle.s2_receive.proofs.Headers.{NoneCoded}
use Rattle.s2_receive.proofs.header_search.next_coded.Given as goal

-- no coded frame begins in the symbols so far, and they were seen
abbrev pub invariant-look : goal.invariant-look
invariant-look l =
    Saw l.search (drop l.start (take l.at l.symbols)) × NoneCoded (found_as l.fn.search.sought l.max_header_errors) l.symbols l.start l.at × (l.search.sought ≡ l.fn.search.sought) × (l.start ≤ l.at)

abbrev pub decreases-look : goal.decreases-look
decreases-look l = l.end - l.at
