use Rattle.std.proofs.Common.{◌≡◌, ◌<◌, ◌+◌, ℕ, get_or}
use Rattle.s2_field.specs.Polynomials.{pow}
use Rattle.s2_bch.proofs.lanes.put_row.Given as goal

abbrev pub invariant-loop-lane : goal.invariant-loop-lane
invariant-loop-lane g l =
    let f = g.F.Field in
    record {
      next : l.term ≡ f.field.product l.fn.coefficient (pow f.field l.ratio l.lane);
      row : (k : ℕ) → k < l.lane → get_or l.terms (l.at + k) f.field.zero ≡ f.field.product l.fn.coefficient (pow f.field l.ratio k);
      before : (k : ℕ) → k < l.at → get_or l.terms k f.field.zero ≡ get_or l.fn.terms k f.field.zero;
    }
