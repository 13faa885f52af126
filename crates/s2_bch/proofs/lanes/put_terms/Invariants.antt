use Rattle.std.proofs.Common.{◌≡◌, ◌<◌, ◌+◌, ◌*◌, ℕ, get_or}
use Rattle.s2_field.specs.Polynomials.{pow}
use Rattle.s2_bch.proofs.lanes.put_terms.Given as goal

abbrev pub invariant-loop-j : goal.invariant-loop-j
invariant-loop-j g l =
    let f = g.F.Field in
    record {
      next : l.ratio ≡ pow f.field l.x l.j;
      rows : (k : ℕ) → k < l.j → (m : ℕ) → m < 16
          → get_or l.terms (16 * k + m) f.field.zero
          ≡ f.field.product (get_or l.polynomial k f.field.zero) (pow f.field (pow f.field l.x m) k);
    }
