use Rattle.std.proofs.Common.{◌≡◌, ◌<◌, ℕ, get_or}
use Rattle.s2_bch.specs.Sequences.{plus, scale, shift}
use Rattle.s2_bch.proofs.berlekamp_massey.combine.Given as goal

abbrev pub invariant-loop-i : goal.invariant-loop-i
invariant-loop-i g l =
    let f = g.F.Field in
    (k : ℕ) → k < l.i → get_or l.out k f.field.zero
    ≡ get_or (plus f.field (shift f.field l.locator_shift l.locator)
    (scale f.field l.factor (shift f.field l.auxiliary_shift l.auxiliary))) k f.field.zero
