use Rattle.std.proofs.Common.{◌≡◌, ℕ, ℤ, ◌*◌, ◌+◌, ◌/◌, List, fold, take, length, map}
use Rattle.s2_certfile.specs.Field.{places}
use Rattle.s2_stitch.specs.Records.{four_at, sum_step}
use Rattle.s2_stitch.proofs.seal.soft_sums.Given as goal

-- every second number of four values, from the first or from the second on
abbrev numbers : List ℤ → ℕ → List ℕ
numbers soft first = map (λ i. four_at soft (8 * i + 4 * first)) (places ((length soft + 7) / 8))

-- the sums of the values so far
abbrev pub invariant-eights : goal.invariant-eights
invariant-eights l = record {
  first : l.first ≡ fold sum_step 0 (take l.k (numbers l.soft 0));
  second : l.second ≡ fold sum_step 0 (take l.k (numbers l.soft 1));
}
