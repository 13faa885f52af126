-- The best scrambling number, tried one after the other.
use Rattle.std.proofs.Common.{◌≡◌, ℕ, ◌+◌, ◌<◌, ◌≤◌, List, ap, inl, inr, arith}
use Rattle.std.proofs.lemmas.Bool.{cases_lt}
use Rattle.s2_scan.specs.Pilots.{IsBest, energy_under}
use Rattle.s2_scan.specs.declared.sums.Sum.{Sum}

-- number 0 is the best of itself
pub best_first : (pilots : List Sum) (number : ℕ) → number ≡ 0 → IsBest pilots 1 number
best_first pilots number is = record {
  there = omega (arith, is);
  most = λ other lt.
      let same : other ≡ number = omega (arith, is, lt) in
      let e = ap (energy_under pilots) same in
      omega (arith, e);
  least = λ other lt. absurd (omega (arith, is, lt));
}

-- the next number has no more energy
pub best_kept : (pilots : List Sum) (n best : ℕ) → IsBest pilots n best → energy_under pilots n ≤ energy_under pilots best → IsBest pilots (n + 1) best
best_kept pilots n best known le = record {
  there = omega (arith, known.there);
  most = λ other lt. elim (cases_lt other n) [
    | inl before ↦ known.most other before
    | inr past ↦
        let same : other ≡ n = omega (arith, past, lt) in
        let e = ap (energy_under pilots) same in
        omega (arith, e, le)
  ];
  least = known.least;
}

-- it has more
pub best_taken : (pilots : List Sum) (n best : ℕ) → IsBest pilots n best → energy_under pilots best < energy_under pilots n → IsBest pilots (n + 1) n
best_taken pilots n best known less = record {
  there = omega arith;
  most = λ other lt. elim (cases_lt other n) [
    | inl before ↦ let le = known.most other before in omega (arith, le, less)
    | inr past ↦
        let same : other ≡ n = omega (arith, past, lt) in
        let e = ap (energy_under pilots) same in
        omega (arith, e)
  ];
  least = λ other lt. let le = known.most other lt in omega (arith, le, less);
}
