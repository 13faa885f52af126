use Rattle.std.proofs.Common.{◌≡◌, ℕ, ℤ, ◌^◌, ◌≤◌, unsigned_abs, to_z, of_z, w64, ap, ◌∙◌, arith}
use Rattle.s2_message.specs.Correlation.{IsWithin}
use Rattle.s2_message.proofs.Products.{held}
use Rattle.s2_message.proofs.correlation_sums.correlation.Goals as goal

within_one : (p : ℕ) (l x : ℤ) → p ≤ 2 ^ 31 → unsigned_abs l ≤ 2 ^ 31 → unsigned_abs x ≤ 2 ^ 31 → IsWithin 1 (record { power = p; along = to_z w64 (of_z w64 l); across = to_z w64 (of_z w64 x) })
within_one p l x power along across =
    record { power = omega (arith, power); along = omega (arith, ap unsigned_abs (held l along), along); across = omega (arith, ap unsigned_abs (held x across), across) }

pub returns-clause-is : goal.returns-clause-is
returns-clause-is c =
    let along = held c.along.result c.along.ensures.most ∙ c.along.ensures.is in
    let across = held c.across.result c.across.ensures.most ∙ c.across.ensures.is in
    λ t. record { power = c.symbol_energy.ensures.is t; along = along t; across = across t }

pub returns-clause-most : goal.returns-clause-most
returns-clause-most c = within_one c.symbol_energy.result c.along.result c.across.result c.symbol_energy.ensures.most c.along.ensures.most c.across.ensures.most
