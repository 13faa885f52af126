-- The terms of a polynomial at sixteen elements of the field, a lane each (EN 302 307-1, 5.3.1).
use Rattle.std.specs.Prelude.{ℕ, ◌≡◌, ◌+◌, ◌*◌, ◌<◌, List, length, slice_index_or}
use Rattle.s2_field.specs.Operations.{Operations}
use Rattle.s2_field.specs.Polynomials.{pow}

module _ {F : Type 0} (field : Operations F) where
  -- sixteen lanes with an element of the field each: row j has coefficient j times the jth power of each lane's element
  pub record AreTerms (f : List F) (x : ℕ → F) (terms : List F) : Type 0 where
    pub each : (j l : ℕ) → j < length f → l < 16
        → slice_index_or terms (16 * j + l) field.zero ≡ field.product (slice_index_or f j field.zero) (pow field (x l) j)
