-- The room that the search for up to t errors takes (EN 302 307-1, 5.3.1).
use Rattle.std.specs.Prelude.{ℕ, ◌≡◌, ◌+◌, ◌≤◌}

pub record HasSizes (t syndromes locator auxiliary next terms values : ℕ) : Type 0 where
  pub few : t ≤ 15
  pub syndromes_fit : syndromes ≡ t + t
  pub locator_fits : locator ≡ t + t + 1
  pub auxiliary_fits : auxiliary ≡ t + t + 1
  pub next_fits : next ≡ t + t + 1
  pub terms_fit : terms ≡ 256
  pub values_fit : values ≡ 16
