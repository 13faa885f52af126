use Rattle.std.proofs.Common.{◌≡◌, ◌+◌, ◌*◌, length}
use Rattle.s2_field.specs.Polynomials.{pow}
use Rattle.s2_bch.specs.Terms.{AreTerms}
use Rattle.s2_bch.proofs.Places.{AreSearched}
use Rattle.s2_bch.proofs.chien.chien_search.Given as goal

abbrev pub invariant-loop-step : goal.invariant-loop-step
invariant-loop-step g l =
    let f = g.F.Field in
    record {
      room : length l.terms ≡ 256;
      lanes : length l.values ≡ 16;
      terms : AreTerms f.field l.locator
          (λ k. pow f.field f.alpha (l.stride * k + l.step)) l.terms;
      searched : AreSearched f.field f.alpha l.locator l.stride l.fn.word l.step l.count l.word;
    }
