-- What a hard decision says (own).
use Rattle.std.specs.Prelude.{◌≡◌, ℕ, ◌<◌, length, pos, int_lt}
use Rattle.s2_bits.specs.Bits.{bit_at}
use Rattle.s2_matrix.specs.Code.{Code}
use Rattle.s2_minsum.specs.Plain.{State, posterior, decision}

-- a bit for each of the code, a one exactly if the posterior is negative
abbrev pub DecisionLaw : Type 0
DecisionLaw =
    (code : Code) (s : State) → (length (decision code s) ≡ code.bits)
    × ((i : ℕ) → i < code.bits → bit_at (decision code s) i ≡ int_lt (posterior code s i) (pos 0))
