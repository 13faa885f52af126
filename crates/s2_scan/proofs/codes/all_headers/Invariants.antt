use Rattle.std.proofs.Common.{◌≡◌, ◌<◌, ℕ, get_or, length}
use Rattle.s2_plframe.specs.Header.{header_bit}
use Rattle.s2_plframe.specs.Inside.{IsHeader}
use Rattle.s2_scan.specs.Passing.{code_at}
use Rattle.s2_scan.proofs.codes.all_headers.Given as goal

abbrev pub invariant-loop-header : goal.invariant-loop-header
invariant-loop-header l = record {
  are : (h : ℕ) → h < l.header → IsHeader (header_bit (code_at h)) (get_or l.headers h 0);
  size : length l.headers ≡ 116;
}
