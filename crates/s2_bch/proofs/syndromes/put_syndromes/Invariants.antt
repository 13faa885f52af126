use Rattle.std.proofs.Common.{◌≡◌, ◌<◌, ℕ, suc, get_or}
use Rattle.s2_bch.specs.Values.{value_at}
use Rattle.s2_field.specs.Polynomials.{pow}
use Rattle.s2_bch.proofs.syndromes.put_syndromes.Given as goal

abbrev pub invariant-loop-j : goal.invariant-loop-j
invariant-loop-j g l =
    let f = g.F.Field in
    (k : ℕ) → k < l.j → get_or l.syndromes k f.field.zero
    ≡ value_at f.field l.word (pow f.field f.alpha (suc k))
