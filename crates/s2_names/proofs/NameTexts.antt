-- Names of modes.
use Rattle.std.proofs.Common.{◌≡◌, ℕ, ◌+◌, ◌-◌, ◌*◌, List, [], ◌∷◌, ◌∙◌, inl, inr, get_or, ap, sym, refl}
use Rattle.std.specs.Prelude.{◌==◌, if◌then◌else◌}
use Rattle.std.specs.Fmt.{digits}
use Rattle.s2_mode.specs.Table.{code_rate_text}
use Rattle.s2_mode.specs.Mode.{Mode, IsMode, modulation_of, rate_of, rate_index}
use Rattle.s2_mode.proofs.Modes.{equal_at}
use Rattle.s2_names.specs.Names.{name_of, IsNameOf}
use Rattle.s2_names.specs.declared.names.Case.TheVariants as cases

-- the first place of a number
place : List ℕ → ℕ → ℕ
place [] n = 0
place (x ∷ xs) n = if x == n then 0 else 1 + place xs n

-- what the first letter, the digit before the stroke and that behind it say
key : List ℕ → ℕ
key text = (if get_or text 0 0 == 56 then 100 else 0) + 10 * (get_or text 4 0 - 48) + (get_or text 6 0 - 48)

-- the MODCOD of a name
number : List ℕ → ℕ
number text = 1 + place (14 ∷ 13 ∷ 25 ∷ 12 ∷ 35 ∷ 23 ∷ 34 ∷ 45 ∷ 56 ∷ 89 ∷ 91 ∷ 135 ∷ 123 ∷ 134 ∷ 156 ∷ 189 ∷ 191 ∷ []) (key text)

small_number : (m : Mode) → IsMode m → number (name_of m cases.Small) ≡ m.modcod
unfolding number key place modulation_of rate_of rate_index code_rate_text digits
small_number m is = equal_at (λ m. number (name_of m cases.Small)) (λ m. m.modcod) m refl is

capital_number : (m : Mode) → IsMode m → number (name_of m cases.Capital) ≡ m.modcod
unfolding number key place modulation_of rate_of rate_index code_rate_text digits
capital_number m is = equal_at (λ m. number (name_of m cases.Capital)) (λ m. m.modcod) m refl is

number_is : (m : Mode) → IsMode m → (text : List ℕ) → IsNameOf m text → number text ≡ m.modcod
number_is m is text (inl small) = ap number small ∙ small_number m is
number_is m is text (inr capital) = ap number capital ∙ capital_number m is

pub one_number : (m other : Mode) → IsMode m → IsMode other → (text : List ℕ) → IsNameOf m text → IsNameOf other text → m.modcod ≡ other.modcod
one_number m other is is_other text named named_other = sym (number_is m is text named) ∙ number_is other is_other text named_other
