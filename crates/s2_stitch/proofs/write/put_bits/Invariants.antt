use Rattle.std.proofs.Common.{◌≡◌, ◌++◌, take}
use Rattle.s2_certfile.specs.Field.{bytes_of_bits}
use Rattle.s2_stitch.proofs.write.put_bits.Given as goal

-- the bytes so far
abbrev pub invariant-bytes : goal.invariant-bytes
invariant-bytes l = record {
  done : l.block.items ≡ l.fn.block.items ++ take l.k (bytes_of_bits l.fn.word);
}
