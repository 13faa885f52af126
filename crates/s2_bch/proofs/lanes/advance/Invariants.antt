use Rattle.std.proofs.Common.{◌≡◌, ◌≤◌, ◌<◌, ◌+◌, ◌*◌, ℕ, List, length, take, get_or}
use Rattle.s2_field.specs.Polynomials.{pow, eval}
use Rattle.s2_bch.specs.Terms.{AreTerms}
use Rattle.s2_bch.proofs.lanes.advance.Given as goal

abbrev pub invariant-loop-j : goal.invariant-loop-j
invariant-loop-j g l =
    let f = g.F.Field in
    record {
      size : length l.terms ≡ length l.fn.terms;
      moved : (k : ℕ) → k < l.j → (m : ℕ) → m < 16
          → get_or l.terms (16 * k + m) f.field.zero ≡ f.field.product (pow f.field f.alpha k) (get_or l.fn.terms (16 * k + m) f.field.zero);
      left : (k : ℕ) → 16 * l.j ≤ k → get_or l.terms k f.field.zero ≡ get_or l.fn.terms k f.field.zero;
      summed : (h : List g.row.F.Denot) (x : ℕ → g.row.F.Denot) → length h ≡ l.count → AreTerms f.field h x l.fn.terms
          → (m : ℕ) → m < 16 → get_or l.values m f.field.zero ≡ eval f.field (take l.j h) (x m);
    }
