use Rattle.std.proofs.Common.{◌≡◌, take, count_by, pos, int_lt}
use Rattle.s2_matrix.specs.Code.{code_of}
use Rattle.s2_minsum.specs.Plain.{posterior}
use Rattle.s2_minsum.specs.Decoding.{decoded}
use Rattle.s2_judge.proofs.early_syndrome.is_odd.Given as goal

abbrev pub invariant-loop-place : goal.invariant-loop-place
invariant-loop-place l = l.ones ≡ count_by (λ i. int_lt (posterior (code_of l.decoder.rows) (decoded l.decoder) i) (pos 0)) (take l.place-index l.places)
