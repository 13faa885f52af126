use Rattle.std.proofs.Common.{◌≡◌, ℕ, ◌<◌, get_or, false}
use Rattle.s2_minsum.specs.Decoding.{is_one}
use Rattle.s2_minsum.proofs.hard.decide_information.Given as goal

abbrev pub invariant-loop-i : goal.invariant-loop-i
invariant-loop-i l = (i : ℕ) → i < l.i → get_or l.word i false ≡ is_one l.fn.shape l.posteriors i
