-- What goes through a block.
use Rattle.std.proofs.Common.{◌≡◌, ℕ, List, [], ◌++◌, Option, Result, Ok, Err, OnOk, OnErr, sym, ap, ◌∙◌, subst, append_assoc, append-nil}
use Rattle.std.specs.Io.KnownBytes.{Appends}
use Rattle.s2_mode.specs.Pieces.{AppendsPart}
use Rattle.s2_certfile.specs.Pages.{GoesThrough}
use Rattle.s2_certfile.proofs.Pages.{all_out, rest_part, through_trans, between_part}

-- the block was written
pub emptied : (a b : Option (List ℕ)) (block mid : List ℕ) → Appends a b block → mid ≡ [] → GoesThrough [] a b block mid
emptied a b block mid h none = (block, ap (λ l. block ++ l) (sym none), h)

-- all bytes went through a block that was empty, and then it was written, or in part
module _ (a b c : Option (List ℕ)) (block last bytes : List ℕ) (none : block ≡ []) (through : GoesThrough bytes a b block last) where
  pub whole_out : {T E : Type 0} (r : Result T E) → OnOk r (Appends b c last) → OnOk r (Appends a c bytes)
  whole_out (Ok x) h = all_out a b c block last bytes none through h
  whole_out (Err e) h = tt

  pub part_out : {T E : Type 0} (r : Result T E) → OnErr r (AppendsPart last b c) → OnErr r (AppendsPart bytes a c)
  part_out (Ok x) h = tt
  part_out (Err e) h = rest_part a b c block last bytes none through h

-- the bytes went through it in part
pub part_of : (a b : Option (List ℕ)) (block bytes : List ℕ) → block ≡ [] → AppendsPart (block ++ bytes) a b → AppendsPart bytes a b
part_of a b block bytes none h = subst (λ l. AppendsPart (l ++ bytes) a b) none h

-- ---- piece by piece

-- the bytes before the rest went through
abbrev pub ThroughTo : (all rest : List ℕ) (old new : Option (List ℕ)) (block last : List ℕ) → Type 0
ThroughTo all rest old new block last = (front : List ℕ) × (all ≡ front ++ rest) × GoesThrough front old new block last

module _ (a b c : Option (List ℕ)) (block mid all rest piece more : List ℕ) (before : ThroughTo all rest a b block mid) (is : rest ≡ piece ++ more) where
  pub goes_on : (last : List ℕ) → GoesThrough piece b c mid last → ThroughTo all more a c block last
  goes_on last h =
      let (front, whole, through) = before in
      (front ++ piece, whole ∙ ap (λ r. front ++ r) is ∙ sym (append_assoc front piece more), through_trans a b c block mid last front piece through h)

  pub breaks_off : AppendsPart (mid ++ piece) b c → AppendsPart (block ++ all) a c
  breaks_off h =
      let (front, whole, through) = before in
      between_part a b c block mid all front piece more (whole ∙ ap (λ r. front ++ r) is) through h

pub all_through : (a b : Option (List ℕ)) (block last all rest : List ℕ) → ThroughTo all rest a b block last → rest ≡ [] → GoesThrough all a b block last
all_through a b block last all rest (front, whole, through) none =
    subst (λ l. GoesThrough l a b block last) (sym (whole ∙ ap (λ r. front ++ r) none ∙ append-nil front)) through
