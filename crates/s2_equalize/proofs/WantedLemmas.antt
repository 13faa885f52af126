-- What an equalizer that may be wanted leaves.
use Rattle.std.proofs.Common.{◌≡◌, ℕ, Bool, true, false, cond, Option, Some, None, IfSome, List, length, refl, ap, subst, sym, ◌∙◌}
use Rattle.std.proofs.lemmas.List.FromFn.{length-map-range_with_len}
use Rattle.s2_mode.specs.declared.symbols.Symbol.{Symbol}
use Rattle.s2_mode.specs.Mode.{Mode, symbols_in}
use Rattle.s2_equalize.specs.Equalizer.{Equalizer, equalized, equalized_symbol, equalizer_of, frame_gains}
use Rattle.s2_equalize.specs.declared.equalizer.Removed.{Removed}
use Rattle.s2_equalize.specs.Wanted.{equalizer_by, held_by, levelled, removed_by, removed_if}

-- what holds of an equalizer holds of it where it is wanted
pub if_equalized : (P : Equalizer → Type 0) (wanted : Bool) (e : Equalizer) → P e → IfSome (cond wanted (Some e) None) P
if_equalized P true e h = h
if_equalized P false e h = tt

-- the symbols that are held after a frame are equalized if that is wanted
pub levelled_by : (m : Mode) (number : ℕ) (wanted : Bool) (frame written result : List Symbol) (equalizer kept : Option Equalizer) → equalizer ≡ equalizer_by wanted m number → kept ≡ equalizer
    → IfSome equalizer (λ e. written ≡ equalized e.mode e.number frame) → result ≡ held_by kept written frame → result ≡ levelled m number wanted frame
levelled_by m number wanted frame written result equalizer kept is same wrote held =
    held ∙ (ap (λ o. held_by o written frame) (same ∙ is) ∙ by wanted (subst (λ o. IfSome o (λ (e : Equalizer). written ≡ equalized e.mode e.number frame)) is wrote))
  where
    by : (w : Bool) → IfSome (cond w (Some (equalizer_of m number)) None) (λ (e : Equalizer). written ≡ equalized e.mode e.number frame)
        → held_by (cond w (Some (equalizer_of m number)) None) written frame ≡ cond w (equalized m number frame) frame
    by true wrote = wrote
    by false none = refl

-- what is held to be taken out of a frame is taken out of it, if that is wanted
pub removed_so : (m : Mode) (number : ℕ) (wanted : Bool) (frame : List Symbol) (equalizer : Option Equalizer) → equalizer ≡ equalizer_by wanted m number → removed_by equalizer frame ≡ removed_if m number wanted frame
removed_so m number wanted frame equalizer is = ap (λ o. removed_by o frame) is ∙ by wanted
  where
    by : (w : Bool) → removed_by (cond w (Some (equalizer_of m number)) None) frame ≡ removed_if m number w frame
    by true = refl
    by false = refl

-- as many as a frame has
pub length_levelled : (m : Mode) (number : ℕ) (wanted : Bool) (frame : List Symbol) → length frame ≡ symbols_in m → length (levelled m number wanted frame) ≡ length frame
unfolding equalized
length_levelled m number true frame long = length-map-range_with_len (equalized_symbol (frame_gains m number frame) frame) 0 (symbols_in m) ∙ sym long
length_levelled m number false frame long = refl
