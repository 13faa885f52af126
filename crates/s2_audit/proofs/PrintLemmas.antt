-- What is printed in parts.
use Rattle.std.proofs.Common.{◌≡◌, ℕ, ◌+◌, ◌-◌, ◌*◌, ◌<◌, min, List, ◌++◌, Option, length, take, drop, sym, ap, subst, ◌∙◌, length-append, length-drop, arith, Result, Ok, Err}
use Rattle.std.specs.Prelude.{slice_range}
use Rattle.std.specs.Io.KnownBytes.{Appends}
use Rattle.std.proofs.KnownBytes.{Appends-trans}
use Rattle.std.proofs.Math.Seq.{take-append-add}
use Rattle.std.proofs.lemmas.List.{take_min}
use Rattle.s2_bbframe.specs.Limits.{packet_bytes}
use Rattle.s2_mode.specs.Pieces.{AppendsPart}
use Rattle.s2_io.specs.declared.fault.Fault.{Fault}
use Rattle.s2_io.specs.declared.fault.Fault.TheVariants as faults
use Rattle.s2_replay.specs.Packets.{packet_at}
use Rattle.s2_audit.specs.Steps.{PrintsText}

-- a part after a whole text
pub part_after : (a b : List ℕ) (o m o' : Option (List ℕ)) → Appends o m a → AppendsPart b m o' → AppendsPart (a ++ b) o o'
part_after a b o m o' app (k, short, more) =
    let long : length (a ++ b) ≡ length a + length b = length-append a b in
    (length a + k, omega (arith, long, short), subst (Appends o o') (sym (take-append-add a b k)) (Appends-trans o m o' a (take k b) app more))

-- the rest of a text after its first part
pub prints_after : {T : Type 0} (a b : List ℕ) (o m o' : Option (List ℕ)) (result : Result T Fault) → Appends o m a → PrintsText b m o' result → PrintsText (a ++ b) o o' result
prints_after a b o m o' (Ok x) app h = Appends-trans o m o' a b app h
prints_after a b o m o' (Err faults.Write) app h = part_after a b o m o' app h
prints_after a b o m o' (Err faults.Read) app h = absurd h
prints_after a b o m o' (Err faults.TooLong) app h = absurd h
prints_after a b o m o' (Err faults.NoMemory) app h = absurd h
prints_after a b o m o' (Err (faults.Open name)) app h = absurd h
prints_after a b o m o' (Err (faults.UsedTwice name)) app h = absurd h
prints_after a b o m o' (Err (faults.Rows text)) app h = absurd h
prints_after a b o m o' (Err (faults.Refused text)) app h = absurd h

-- a packet as it is cut out
pub cut_packet : (packets : List ℕ) (place at end : ℕ) → packet_bytes * place < length packets → at ≡ packet_bytes * place → end ≡ min (length packets) (at + packet_bytes) → slice_range packets at end ≡ packet_at packets place
cut_packet packets place at end within at_is end_is =
    let rest : length (drop at packets) ≡ length packets - at = length-drop at packets in
    let size : end - at ≡ min packet_bytes (length (drop at packets)) = omega (arith, end_is, rest, at_is, within) in
    ap (λ n. take n (drop at packets)) size ∙ take_min packet_bytes (drop at packets) ∙ ap (λ n. take packet_bytes (drop n packets)) at_is
