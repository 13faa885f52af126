use Rattle.std.proofs.Common.{◌≡◌, ◌<◌, ℕ, List, length, take, rules, arith}
use Rattle.s2_bbframe.specs.Joining.{run_of}
use Rattle.s2_bbframe.proofs.BodySteps.{fills, gives, drops}
use Rattle.s2_bbframe.proofs.bodies.read_bodies.Goals as goal
use Rattle.s2_bbframe.proofs.bodies.read_bodies.Goals.{then-held-lt-BODY_BYTES, else-held-lt-BODY_BYTES+then-byte-crc8, else-held-lt-BODY_BYTES+else-byte-crc8}

pub loop-byte-preserved : goal.loop-byte-preserved
loop-byte-preserved c =
    let i : ℕ = c.loop-byte.byte-index in
    let bytes : List ℕ = c.args.bytes.now in
    let within : i < length bytes = omega arith in
    let long : length c.loop-byte.body ≡ 187 = omega arith in
    let all = run_of (take c.args.start c.args.body.now) bytes in
    elim c.if-held-lt-BODY_BYTES.branch [
      | then-held-lt-BODY_BYTES w ↦
          (let r = fills all c.loop-byte.held c.loop-byte.body bytes i c.loop-byte.good c.loop-byte.bad c.loop-byte.packets within long c.loop-byte.invariant.0 w.if-held-lt-BODY_BYTES.true in
          (rw (w.body-is, w.held-is, w.good-is, w.bad-is, w.packets-is) r, omega arith, omega arith, search rules))
      | else-held-lt-BODY_BYTES+then-byte-crc8 w ↦
          (let r = gives all c.loop-byte.held c.loop-byte.body bytes i c.loop-byte.good c.loop-byte.bad c.loop-byte.packets within long w.put_packet.new.packets c.loop-byte.invariant.0 w.if-held-lt-BODY_BYTES.false (search rules) w.put_packet.ensures.packet in
          (rw (w.held-is, w.good-is, w.bad-is, w.packets-is) r, omega arith, omega arith, search rules))
      | else-held-lt-BODY_BYTES+else-byte-crc8 w ↦
          (let r = drops all c.loop-byte.held c.loop-byte.body bytes i c.loop-byte.good c.loop-byte.bad c.loop-byte.packets within long c.loop-byte.invariant.0 w.if-held-lt-BODY_BYTES.false (search rules) in
          (rw (w.held-is, w.good-is, w.bad-is, w.packets-is) r, omega arith, omega arith, search rules))
    ]
