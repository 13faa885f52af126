-- Symbols that are multiplied by a whole number.
use Rattle.std.proofs.Common.{◌≡◌, ℕ, ◌+◌, ◌*◌, ℤ, pos, ◌+ℤ◌, ◌-ℤ◌, ◌*ℤ◌, unsigned_abs, List, [], ◌∷◌, map, get_or, refl, sym, ap, ap₂, ◌∙◌, arith}
use Rattle.std.proofs.lemmas.Int.{ints, unsigned_abs-mul}
use Rattle.std.proofs.Math.ListN.{get_or-map}
use lib.IntN.{*ℤ-zero}
use Rattle.s2_mode.specs.declared.symbols.Symbol.{Symbol}
use Rattle.s2_mode.specs.Symbols.{symbol, symbol_at}
use Rattle.s2_report.specs.declared.figures.Correlation.{Correlation}
use Rattle.s2_message.specs.Header.{symbol_energy}
use Rattle.s2_message.specs.Correlation.{ScalingLaw, correlation, correlation_at, correlation_over, no_correlation, plus, scaled, scaled_correlation, sum_over}
use Rattle.s2_message.proofs.Products.{*ℤ-sum, *ℤ-difference, *ℤ-assoc}

-- ---- one symbol

square_scaled : (g a : ℕ) → g * a * (g * a) ≡ g * g * (a * a)
square_scaled g a = omega (arith)

component_energy : (g a : ℤ) → unsigned_abs (g *ℤ a) * unsigned_abs (g *ℤ a) ≡ unsigned_abs g * unsigned_abs g * (unsigned_abs a * unsigned_abs a)
component_energy g a = ap (λ (n : ℕ). n * n) (unsigned_abs-mul g a) ∙ square_scaled (unsigned_abs g) (unsigned_abs a)

apart : (n a b : ℕ) → n * a + n * b ≡ n * (a + b)
apart n a b = omega arith

energy_scaled : (g : ℤ) (s : Symbol) → symbol_energy (scaled g s) ≡ unsigned_abs g * unsigned_abs g * symbol_energy s
energy_scaled g s =
    ap₂ (λ (a : ℕ) (b : ℕ). a + b) (component_energy g s.i) (component_energy g s.q)
    ∙ apart (unsigned_abs g * unsigned_abs g) (unsigned_abs s.i * unsigned_abs s.i) (unsigned_abs s.q * unsigned_abs s.q)

one_scaled : (g : ℤ) (r s : Symbol) → correlation (scaled g r) s ≡ scaled_correlation g (correlation r s)
one_scaled g r s =
    let along = ap₂ (λ (a : ℤ) (b : ℤ). a +ℤ b) (*ℤ-assoc g r.i s.i) (*ℤ-assoc g r.q s.q) ∙ sym (*ℤ-sum (r.i *ℤ s.i) (r.q *ℤ s.q) g) in
    let across = ap₂ (λ (a : ℤ) (b : ℤ). a -ℤ b) (*ℤ-assoc g r.q s.i) (*ℤ-assoc g r.i s.q) ∙ sym (*ℤ-difference (r.q *ℤ s.i) (r.i *ℤ s.q) g) in
    λ t. record { power = energy_scaled g r t; along = along t; across = across t }

-- ---- sums

none_scaled : (g : ℤ) → no_correlation ≡ scaled_correlation g no_correlation
none_scaled g =
    let power : 0 ≡ unsigned_abs g * unsigned_abs g * 0 = omega arith in
    λ t. record { power = power t; along = sym (*ℤ-zero g) t; across = sym (*ℤ-zero g) t }

plus_scaled : (g : ℤ) (a b : Correlation) → plus (scaled_correlation g a) (scaled_correlation g b) ≡ scaled_correlation g (plus a b)
plus_scaled g a b =
    λ t. record {
      power = apart (unsigned_abs g * unsigned_abs g) a.power b.power t;
      along = sym (*ℤ-sum a.along b.along g) t;
      across = sym (*ℤ-sum a.across b.across g) t;
    }

at_scaled : (g : ℤ) (symbols : List Symbol) (i : ℕ) → symbol_at (map (scaled g) symbols) i ≡ scaled g (symbol_at symbols i)
at_scaled g symbols i =
    let origin = symbol (pos 0) (pos 0) in
    let same : origin ≡ scaled g origin = λ t. symbol (sym (*ℤ-zero g) t) (sym (*ℤ-zero g) t) in
    ap (get_or (map (scaled g) symbols) i) same ∙ get_or-map (scaled g) symbols i origin

pub scaling : ScalingLaw
scaling gain [] received sent = none_scaled gain
scaling gain (i ∷ places) received sent =
    let here : correlation_at (map (scaled gain) received) sent i ≡ scaled_correlation gain (correlation_at received sent i) =
    ap (λ (r : Symbol). correlation r (symbol_at sent i)) (at_scaled gain received i) ∙ one_scaled gain (symbol_at received i) (symbol_at sent i) in
    ap₂ plus here (scaling gain places received sent)
    ∙ plus_scaled gain (correlation_at received sent i) (correlation_over places received sent)
