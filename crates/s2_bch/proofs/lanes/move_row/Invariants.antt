use Rattle.std.proofs.Common.{◌≡◌, ◌≤◌, ◌<◌, ◌+◌, ℕ, get_or}
use Rattle.s2_field.specs.Polynomials.{pow}
use Rattle.s2_bch.proofs.lanes.move_row.Given as goal

abbrev pub invariant-loop-lane : goal.invariant-loop-lane
invariant-loop-lane g l =
    let f = g.F.Field in
    record {
      summed : (k : ℕ) → k < l.lane → get_or l.values k f.field.zero ≡ f.field.sum (get_or l.fn.values k f.field.zero) (get_or l.fn.terms (l.at + k) f.field.zero);
      moved : (k : ℕ) → k < l.lane
          → get_or l.terms (l.at + k) f.field.zero ≡ f.field.product (pow f.field f.alpha l.power) (get_or l.fn.terms (l.at + k) f.field.zero);
      unsummed : (k : ℕ) → l.lane ≤ k → get_or l.values k f.field.zero ≡ get_or l.fn.values k f.field.zero;
      before : (k : ℕ) → k < l.at → get_or l.terms k f.field.zero ≡ get_or l.fn.terms k f.field.zero;
      behind : (k : ℕ) → l.at + l.lane ≤ k → get_or l.terms k f.field.zero ≡ get_or l.fn.terms k f.field.zero;
    }
