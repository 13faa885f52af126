-- What a recalling decider decides.
use Rattle.std.proofs.Common.{◌≡◌, Bool, true, false, if◌then◌else◌, List, Option, Some, None, IfSome, refl, sym, ap, subst, ◌∙◌}
use Rattle.std.proofs.Math.Path.{fun_ext}
use Rattle.std.proofs.lemmas.Bool.Decides.{Decides-and, Decides-int_eq, Decides-like}
use Rattle.std.proofs.lemmas.Slice.Eq.{slice_eq-Decides}
use Rattle.std.specs.Bool.{Decides}
use Rattle.std.specs.Ordering.{int_eq}
use Rattle.s2_mode.specs.declared.symbols.Symbol.{Symbol}
use Rattle.s2_receive.specs.Receiving.{Decision}
use Rattle.s2_stitch.specs.Frames.{RecordedFrame}
use Rattle.s2_stitch.specs.Recalling.{are_same, holds, is_same, last_by, recalls}

-- ---- equal symbols

pub symbol_decides : (a b : Symbol) → Decides (is_same a b) (a ≡ b)
symbol_decides a b =
    Decides-like {P = (a.i ≡ b.i) × (a.q ≡ b.q)} {Q = a ≡ b} (is_same a b) (λ (both : (a.i ≡ b.i) × (a.q ≡ b.q)). λ k. record { i = both.0 k; q = both.1 k }) (λ is. (ap (λ (s : Symbol). s.i) is, ap (λ (s : Symbol). s.q) is))
    (Decides-and (int_eq a.i b.i) (int_eq a.q b.q) (Decides-int_eq a.i b.i) (Decides-int_eq a.q b.q))

pub symbols_decide : (xs ys : List Symbol) → Decides (are_same xs ys) (xs ≡ ys)
symbols_decide xs ys = slice_eq-Decides {E = is_same} symbol_decides xs ys (are_same xs ys) refl

-- ---- the rule

-- a frame whose decision is the rule's changes nothing
pub rule_is : (decide : List Symbol → Decision) (held : Option RecordedFrame) → IfSome held (λ f. f.decision ≡ decide f.symbols) → recalls decide held ≡ decide
rule_is decide None so = refl
rule_is decide (Some f) so = fun_ext (λ symbols. at symbols (are_same f.symbols symbols) refl)
  where
    at : (symbols : List Symbol) (b : Bool) → are_same f.symbols symbols ≡ b → (if b then f.decision else decide symbols) ≡ decide symbols
    at symbols true is = so ∙ ap decide ((symbols_decide f.symbols symbols).0 is)
    at symbols false is = refl

-- on the symbols of the frame that is held, its decision is taken
pub recalled_so : {D : Type 0} (last : D → Decision) (d : D) (decide : List Symbol → Decision) (held : Option RecordedFrame) (symbols : List Symbol) → holds held symbols ≡ true → last_by last d held ≡ recalls decide held symbols
recalled_so last d decide None symbols is = cc
recalled_so last d decide (Some f) symbols is = subst (λ (b : Bool). f.decision ≡ (if b then f.decision else decide symbols)) (sym is) refl

-- on others it is not
pub decided_so : (decide : List Symbol → Decision) (held : Option RecordedFrame) (symbols : List Symbol) → holds held symbols ≡ false → recalls decide held symbols ≡ decide symbols
decided_so decide None symbols is = refl
decided_so decide (Some f) symbols is = ap (λ (b : Bool). if b then f.decision else decide symbols) is
