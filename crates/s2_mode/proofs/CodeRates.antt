-- What the lines of the table of code rates say.
use Rattle.std.proofs.Common.{◌≡◌, ℕ, ◌<◌, [], get_or, map}
use Rattle.std.proofs.lemmas.List.{get_or-map}
use Rattle.s2_mode.specs.Table.{rate, rates, no_sizes, code_rate_text}

pub text_at : (i : ℕ) → i < 11 → get_or (map code_rate_text rates) i [] ≡ code_rate_text (get_or rates i (rate 0 1 0 0 0 0 0))
text_at i few = get_or-map code_rate_text rates i (rate 0 1 0 0 0 0 0) [] few

pub sizes_at : (i : ℕ) → i < 11 → get_or (map (λ line. line.sizes) rates) i no_sizes ≡ (get_or rates i (rate 0 1 0 0 0 0 0)).sizes
sizes_at i few = get_or-map (λ line. line.sizes) rates i (rate 0 1 0 0 0 0 0) no_sizes few
