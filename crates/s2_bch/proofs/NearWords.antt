-- The search for the nearest word in one of the two fields, on what the division leaves.
use Rattle.std.specs.Prelude.{ℕ, ◌≡◌, ◌+◌, ◌<◌, ◌≤◌, Bool, true, ◌∷◌, List, length, drop}
use Rattle.std.proofs.Common.{sym, ap, ◌∙◌, subst, arith}
use Rattle.s2_field.specs.Operations.{Operations}
use Rattle.s2_field.specs.Laws.{FieldLaws}
use Rattle.s2_mode.specs.Mode.{Mode, IsMode, HasCodeSizes, k_of, kbch_of, t_of}
use Rattle.s2_bits.specs.Bits.{differences}
use Rattle.s2_bch.specs.Codes.{IsBchWord}
use Rattle.s2_bch.specs.Generators.{generator_of}
use Rattle.s2_bch.specs.Registers.{rest_of}
use Rattle.s2_bch.specs.Values.{HasRoots, HaveSameValues}
use Rattle.s2_bch.specs.Words.{IsMultiple}
use Rattle.s2_field.specs.Gf16 as gf16
use Rattle.s2_field.specs.Gf14 as gf14
use Rattle.s2_bch.specs.Ready.{IsWorkspace}
use Rattle.s2_bch.specs.Errors.{order_of, HaveSameValuesIn, IsOnlyIn}
use Rattle.s2_bch.specs.declared.bch.Workspace.{Workspace}
use Rattle.s2_bch.specs.declared.bch.Workspace.TheVariants.{Normal, Short}
use Rattle.s2_bch.proofs.GeneratorFacts.{IsGeneratorIn, generator_facts, max_normal, max_short, normal_generator, short_generator}
use Rattle.s2_bch.proofs.RestFacts.{values_of_rest}

module _ {F : Type 0} (field : Operations F) (laws : FieldLaws field) (a : F) (degree : ℕ) (m : Mode) (is : IsMode m) (sizes : HasCodeSizes m)
    (made : IsGeneratorIn field a degree (t_of m) (generator_of m)) (t : ℕ) (same : t ≡ t_of m) where
  -- the rest has the word's values
  rest_has_values : (word rest : List Bool) → length word ≡ k_of m → rest ≡ rest_of (drop 1 (generator_of m)) (kbch_of m) word → HaveSameValues field a (t + t) rest word
  rest_has_values word rest size left =
      let tail : List Bool = drop 1 (generator_of m) in
      values_of_rest tail (kbch_of m) word (let g = generator_facts m is sizes in omega (arith, g.size, size)) field laws a _ rest left
      (subst (λ n. HasRoots field a (n + n) (true ∷ tail)) (sym same) (subst (HasRoots field a (t_of m + t_of m)) made.begins made.roots))

  -- the only word in reach is a word of the mode's code
  only_in_reach : (old new : List Bool) → length old ≡ k_of m
      → ((g v : List Bool) → 0 < length g → HasRoots field a (t + t) g → IsMultiple g v → length v ≡ length old → differences (length old) old v ≤ t → new ≡ v)
      → (v : List Bool) → IsBchWord m v → differences (length old) old v ≤ t_of m → new ≡ v
  only_in_reach old new size only v word near =
      only (generator_of m) v (omega (arith, made.size)) (subst (λ t. HasRoots field a (t + t) (generator_of m)) (sym same) made.roots)
      word.multiple (omega (arith, word.size, size)) (omega (arith, same, near))

-- ---- in the field of a mode's workspace

pub shorter : (m : Mode) → IsMode m → (w : Workspace) → IsWorkspace m w → k_of m < order_of w
shorter m is (Normal t) workspace = omega (arith, max_normal m is workspace.0)
shorter m is (Short t) workspace = omega (arith, max_short m is workspace.0)

pub values_in : (m : Mode) → IsMode m → HasCodeSizes m → (w : Workspace) → IsWorkspace m w → (word rest : List Bool) → length word ≡ k_of m
    → rest ≡ rest_of (drop 1 (generator_of m)) (kbch_of m) word → HaveSameValuesIn w rest word
values_in m is sizes (Normal t) workspace = rest_has_values gf16.field gf16.laws gf16.alpha 16 m is sizes (normal_generator m is workspace.0) t workspace.1
values_in m is sizes (Short t) workspace = rest_has_values gf14.field gf14.laws gf14.alpha 14 m is sizes (short_generator m is workspace.0) t workspace.1

only_of : (m : Mode) → IsMode m → HasCodeSizes m → (w : Workspace) → IsWorkspace m w → (old new : List Bool) → length old ≡ k_of m → IsOnlyIn w old new
    → (v : List Bool) → IsBchWord m v → differences (length old) old v ≤ t_of m → new ≡ v
only_of m is sizes (Normal t) workspace = only_in_reach gf16.field gf16.laws gf16.alpha 16 m is sizes (normal_generator m is workspace.0) t workspace.1
only_of m is sizes (Short t) workspace = only_in_reach gf14.field gf14.laws gf14.alpha 14 m is sizes (short_generator m is workspace.0) t workspace.1

-- of a copy of the word
pub only_in : (m : Mode) → IsMode m → HasCodeSizes m → (w : Workspace) → IsWorkspace m w → (word old new : List Bool) → old ≡ word → length word ≡ k_of m → IsOnlyIn w old new
    → (v : List Bool) → IsBchWord m v → differences (length word) word v ≤ t_of m → new ≡ v
only_in m is sizes w workspace word old new same size only v bch near =
    only_of m is sizes w workspace old new (ap length same ∙ size) only v bch (subst (λ (u : List Bool). differences (length u) u v ≤ t_of m) (sym same) near)
