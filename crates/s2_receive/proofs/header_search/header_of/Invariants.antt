use Rattle.s2_receive.proofs.Names.{◌≡◌, ◌≤◌, ◌-◌, false, length, take, drop, found_last, Saw, found_as}
use Rattle.s2_receive.proofs.header_search.header_of.Given as goal

-- the symbols so far were seen, and this is found at the last 90 of them
abbrev pub invariant-look : goal.invariant-look
invariant-look l =
    Saw l.search (drop 0 (take l.at l.symbols))
    × (found_last (found_as l.fn.search.sought l.max_header_errors false) (drop 0 (take l.at l.symbols)) ≡ l.found)
    × (l.search.sought ≡ l.fn.search.sought) × (l.at ≤ length l.symbols)

abbrev pub decreases-look : goal.decreases-look
decreases-look l = length l.symbols - l.at
