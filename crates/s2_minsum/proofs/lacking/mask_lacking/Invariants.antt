use Rattle.std.proofs.Common.{◌≡◌, ℕ, ◌+◌, ◌*◌, ◌<◌, ◌≤◌, ◌==◌, ◌&&◌, if◌then◌else◌, get_or}
use Rattle.s2_minsum.specs.Rows.{entry_at}
use Rattle.s2_minsum.proofs.lacking.mask_lacking.Given as goal

abbrev pub invariant-loop-e : goal.invariant-loop-e
invariant-loop-e g l = record {
  done : (e c : ℕ) → e < l.e → c < l.n → get_or l.rows (e * l.n + c) l.value ≡ (if (c == 0) && (((entry_at l.entries e).row == l.last) && ((entry_at l.entries e).shift == 1)) then l.value else get_or l.initial.rows (e * l.n + c) l.value);
  left : (e c : ℕ) → l.e ≤ e → c < l.n → get_or l.rows (e * l.n + c) l.value ≡ get_or l.initial.rows (e * l.n + c) l.value;
}
