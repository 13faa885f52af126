-- The contents of a command's output and errors (own).
use Rattle.std.specs.Prelude.{◌≡◌, ℕ, ◌+◌, List, Option}
use Rattle.s2_mode.specs.Counts.{CanCount}

-- the contents of a console's output and of its errors, if they are known, and how many calls of each have failed
pub record Screen : Type 0 where
  pub output : Option (List ℕ)
  pub output_failed : ℕ
  pub errors : Option (List ℕ)
  pub errors_failed : ℕ

-- a console's output and errors, and how many calls of each have failed
abbrev pub screen_of : Option (List ℕ) → ℕ → Option (List ℕ) → ℕ → Screen
screen_of output output_failed errors errors_failed =
    record { output = output; output_failed = output_failed; errors = errors; errors_failed = errors_failed }

-- one more failed call of each can be counted
abbrev pub CanShow : Screen → Type 0
CanShow screen = CanCount screen.output_failed × CanCount screen.errors_failed

-- the same, if a note may be written before a fault is reported
abbrev pub CanNote : Screen → Type 0
CanNote screen = CanCount screen.output_failed × CanCount (screen.errors_failed + 1)
