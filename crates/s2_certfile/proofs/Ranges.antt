-- What the tests of the entries say.
use Rattle.std.proofs.Common.{◌≡◌, ◌<◌, true, false, ltb, ℤ, pos, neg_ℤ, int_lt, inl, inr, arith}
use Rattle.std.proofs.lemmas.Int.{ints}
use Rattle.std.proofs.lemmas.Bool.{cases_Bool, and_parts, ltb-true, eqb-true}
use Rattle.s2_rows.specs.Values.{is_value}
use Rattle.s2_mode.specs.Limits.{max_soft}
use Rattle.s2_certfile.specs.File.{IsSoft, IsMove}
use Rattle.s2_certfile.specs.declared.step.Move.{Move}
use Rattle.s2_certfile.specs.Format.{is_move}

pub soft_in_range : (v : ℤ) → is_value v ≡ true → IsSoft v
soft_in_range v h =
    let not_low : int_lt v (neg_ℤ (pos max_soft)) ≡ false = elim (cases_Bool (int_lt v (neg_ℤ (pos max_soft)))) [ inl low ↦ (let h' = rw low at h in cc) | inr ok ↦ ok ] in
    let not_high : int_lt (pos max_soft) v ≡ false = elim (cases_Bool (int_lt (pos max_soft) v)) [ inl high ↦ (let h' = rw (not_low, high) at h in cc) | inr ok ↦ ok ] in
    record { low = omega (arith, ints); high = omega (arith, ints) }

pub move_in_range : (m : Move) → m.place < 65536 → is_move m ≡ true → IsMove m
move_in_range m small h =
    let parts = and_parts _ _ h in
    record {
      place_fits = small;
      amount_fits = ltb-true m.amount 2147483648 parts.0;
      unmoved = λ none. (
          elim (cases_Bool (ltb 0 m.amount)) [
            | inl some ↦ absurd (let some' = ltb-true 0 m.amount some in omega arith)
            | inr no' ↦ (let last = rw no' at parts.1 in eqb-true m.place 0 last)
          ]
          );
    }
