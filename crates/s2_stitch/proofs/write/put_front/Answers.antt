use Rattle.std.proofs.Common.{◌∷◌, [], rules}
use Rattle.std.specs.Int.{to_be_bytes, w32, w64}
use Rattle.s2_stitch.specs.Records.{verdict_byte}
use Rattle.s2_stitch.proofs.RecordLemmas.{put_five}
use Rattle.s2_stitch.proofs.write.put_front.Goals as goal

pub returns : goal.returns
returns c =
    put_five c.args.block.now.items c.extend_from_slice.new.self.items c.extend_from_slice-2.new.self.items c.extend_from_slice-3.new.self.items c.extend_from_slice-4.new.self.items c.push.new.self.items
    (to_be_bytes w64 c.args.at) (to_be_bytes w64 c.args.seal) (to_be_bytes w32 c.args.rounds) (to_be_bytes w32 c.args.size) (verdict_byte c.args.verdict ∷ [])
    (search rules) (search rules) (search rules) (search rules) (search rules)
