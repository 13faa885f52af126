-- The split that the contents of a file hold (own).
use Rattle.s2_certfile.specs.declared.held.Held.{Held}
use Rattle.s2_certfile.specs.declared.held.Held.TheVariants as held
use Rattle.s2_certfile.specs.File.{Split, Listed, Moved}

-- the split that the contents of a file hold
abbrev pub split_in : Held → Split
split_in (held.Listed shares) = Listed shares.items
split_in (held.Moved moves) = Moved moves.items
