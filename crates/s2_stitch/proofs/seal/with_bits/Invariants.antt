use Rattle.std.proofs.Common.{◌≡◌, fold, take}
use Rattle.s2_certfile.specs.Field.{bytes_of_bits}
use Rattle.s2_stitch.specs.Records.{eights_of, sum_step}
use Rattle.s2_stitch.proofs.seal.with_bits.Given as goal

-- the sum of the bytes so far
abbrev pub invariant-eights : goal.invariant-eights
invariant-eights l = l.sum ≡ fold sum_step l.fn.sum (take l.k (eights_of (bytes_of_bits l.word)))
