use Rattle.std.proofs.Common.{arith, ◌≡◌, sym, ap, length}
use Rattle.s2_bits.specs.Bits.{differences}
use Rattle.s2_mode.specs.Mode.{k_of}
use Rattle.s2_bch.proofs.CodeFacts.{words_far_apart}
use Rattle.s2_bch.proofs.laws.distance.Goals as goal

pub returns : goal.returns
returns c u v hu hv ne =
    let d : differences (k_of c.args.mode) u v ≡ differences (length u) u v =
    ap (λ n. differences n u v) (sym hu.size) in
    let far = words_far_apart c.args.mode c.t.ensures.valid u v hu hv ne in
    omega (arith, d, far)
