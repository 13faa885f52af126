use Rattle.s2_bch.proofs.NearestWords.{nearest_is_within, within_is_nearest, no_nearest, none_is_nearest}
use Rattle.s2_bch.proofs.laws.nearest.Goals as goal

pub returns-clause-some : goal.returns-clause-some
returns-clause-some c r v whole = (
  nearest_is_within c.args.mode c.k.ensures.valid c.k.ensures.sizes r whole v,
  within_is_nearest c.args.mode c.k.ensures.valid c.k.ensures.sizes r whole v,
)

pub returns-clause-none : goal.returns-clause-none
returns-clause-none c r whole = (
  no_nearest c.args.mode c.k.ensures.valid c.k.ensures.sizes r whole,
  none_is_nearest c.args.mode c.k.ensures.valid c.k.ensures.sizes r whole,
)
