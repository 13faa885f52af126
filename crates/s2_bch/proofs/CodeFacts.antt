-- How far the words of a code are apart.
use Rattle.std.specs.Prelude.{ℕ, suc, ◌≡◌, ◌≢◌, ◌+◌, ◌-◌, ◌<◌, ◌≤◌, refl, Bool, true, false, List, length}
use Rattle.std.proofs.Common.{sym, ◌∙◌, ap, arith}
use Rattle.s2_field.specs.Operations.{Operations}
use Rattle.s2_field.specs.Polynomials as P
use Rattle.s2_field.specs.Laws.{FieldLaws}
use Rattle.s2_field.specs.Gf16 as gf16
use Rattle.s2_field.specs.Gf14 as gf14
use Rattle.s2_mode.specs.Mode.{Mode, IsMode, t_of}
use Rattle.s2_bits.specs.Bits.{differences}
use Rattle.s2_bch.specs.Values.{HasRoots, AllPowersDiffer}
use Rattle.s2_bch.proofs.ValueFacts.{differ-of-order, far-apart, close_same, multiple-root}
use Rattle.s2_bch.specs.Words.{IsMultiple}
use Rattle.s2_bch.specs.Codes.{IsBchWord}
use Rattle.s2_bch.proofs.LocatorTheory.{zero-mul}
use Rattle.s2_bch.specs.Generators.{generator_of}
use Rattle.s2_bch.proofs.GeneratorFacts.{max_normal, max_short, normal_generator, short_generator}

-- ---- the powers of a

module _ {F : Type 0} (field : Operations F) (L : FieldLaws field) (a : F) (n : ℕ)
    (o : P.HasOrder field a n) (some : 0 < n) where
  pub not_nil : a ≢ field.zero
  not_nil z =
      let e : n ≡ suc (n - 1) = omega arith in
      L.one_ne_zero
      (sym (sym (ap (P.pow field a) e) ∙ o.power)
      ∙ ap (λ x. field.product x (P.pow field a (n - 1))) z
      ∙ zero-mul field L _)

  pub powers_differ : AllPowersDiffer field a n
  powers_differ = record { differ = differ-of-order field L a n not_nil o.least }

-- ---- multiples of a generator

module _ {F : Type 0} (field : Operations F) (L : FieldLaws field) where
  pub multiple_has_roots : (a : F) (r : ℕ) (g w : List Bool) → 0 < length g → HasRoots field a r g → IsMultiple g w
      → HasRoots field a r w
  multiple_has_roots a r g w some roots is = record { root = λ j hj. multiple-root field L g w _ some is (roots.root j hj) }

  pub far : (a : F) (n r : ℕ) (o : P.HasOrder field a n) → 0 < n → (g u v : List Bool) → 0 < length g
      → HasRoots field a r g → IsMultiple g u → IsMultiple g v → length u ≡ length v → length v ≤ n → u ≢ v → r < differences (length u) u v
  far a n r o positive g u v some roots mu mv e h ne =
      far-apart field L a n r g u v (not_nil field L a n o positive)
      (powers_differ field L a n o positive).differ some
      roots.root mu mv e h ne

far_of : (m : Mode) (s : Bool) → m.short ≡ s → IsMode m → (u v : List Bool) → IsBchWord m u → IsBchWord m v → u ≢ v
    → t_of m + t_of m < differences (length u) u v
far_of m false e is u v hu hv ne =
    let g = normal_generator m is e in
    let most = max_normal m is e in
    far gf16.field gf16.laws gf16.alpha 65535 (t_of m + t_of m) gf16.order (omega arith)
    (generator_of m) u v (omega (arith, g.size)) g.roots hu.multiple hv.multiple (omega (arith, hu.size, hv.size)) (omega (arith, hv.size)) ne
far_of m true e is u v hu hv ne =
    let g = short_generator m is e in
    let most = max_short m is e in
    far gf14.field gf14.laws gf14.alpha 16383 (t_of m + t_of m) gf14.order (omega arith)
    (generator_of m) u v (omega (arith, g.size)) g.roots hu.multiple hv.multiple (omega (arith, hu.size, hv.size)) (omega (arith, hv.size)) ne

-- two different words differ in more than 2t places
pub words_far_apart : (m : Mode) → IsMode m → (u v : List Bool) → IsBchWord m u → IsBchWord m v → u ≢ v → t_of m + t_of m < differences (length u) u v
words_far_apart m is u v hu hv ne = far_of m m.short refl is u v hu hv ne

-- two words at most 2t places apart are one
module _ {F : Type 0} (field : Operations F) (L : FieldLaws field) where
  close : (a : F) (n r : ℕ) (o : P.HasOrder field a n) → 0 < n → (g u v : List Bool) → 0 < length g
      → HasRoots field a r g → IsMultiple g u → IsMultiple g v → length u ≡ length v → length v ≤ n → differences (length u) u v ≤ r → u ≡ v
  close a n r o positive g u v some roots mu mv e h near =
      close_same field L a n r g u v (not_nil field L a n o positive)
      (powers_differ field L a n o positive).differ some
      roots.root mu mv e h near

close_of : (m : Mode) (s : Bool) → m.short ≡ s → IsMode m → (u v : List Bool) → IsBchWord m u → IsBchWord m v
    → differences (length u) u v ≤ t_of m + t_of m → u ≡ v
close_of m false e is u v hu hv near =
    let g = normal_generator m is e in
    let most = max_normal m is e in
    close gf16.field gf16.laws gf16.alpha 65535 (t_of m + t_of m) gf16.order (omega arith)
    (generator_of m) u v (omega (arith, g.size)) g.roots hu.multiple hv.multiple (omega (arith, hu.size, hv.size)) (omega (arith, hv.size)) near
close_of m true e is u v hu hv near =
    let g = short_generator m is e in
    let most = max_short m is e in
    close gf14.field gf14.laws gf14.alpha 16383 (t_of m + t_of m) gf14.order (omega arith)
    (generator_of m) u v (omega (arith, g.size)) g.roots hu.multiple hv.multiple (omega (arith, hu.size, hv.size)) (omega (arith, hv.size)) near

pub words_same : (m : Mode) → IsMode m → (u v : List Bool) → IsBchWord m u → IsBchWord m v → differences (length u) u v ≤ t_of m + t_of m → u ≡ v
words_same m is u v hu hv near = close_of m m.short refl is u v hu hv near
