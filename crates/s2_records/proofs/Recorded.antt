-- What a recorder writes.
use Rattle.std.proofs.Common.{ℕ, List, [], ◌∷◌, Option, sym, subst, arith}
use Rattle.std.specs.Io.KnownBytes.{Appends}
use Rattle.std.proofs.KnownBytes.{Appends-nil, Appends-trans}
use Rattle.s2_mode.specs.Pieces.{AppendsPart}
use Rattle.s2_report.specs.Figures.{saturated}
use Rattle.s2_stitch.specs.Records.{Record, record_bytes}
use Rattle.s2_records.specs.Recording.{RecordedLaw, record_of, recorded}

pub recorded_lem : {W : Type 0} (contents : W → Option (List ℕ)) → RecordedLaw contents
recorded_lem contents old new [] same = subst (λ r. Appends (contents old.to) (contents r.to) []) (sym same) (Appends-nil (contents old.to))
recorded_lem contents old new (first ∷ later) (mid, here, rest) =
    let next : Appends (contents mid.to) (contents new.to) (recorded mid.certificates mid.from mid.seed later) = recorded_lem contents mid new later rest in
    let placed = subst (λ k. Appends (contents mid.to) (contents new.to) (recorded mid.certificates k mid.seed later)) here.same.0 next in
    let seeded = subst (λ k. Appends (contents mid.to) (contents new.to) (recorded mid.certificates old.from k later)) here.same.1 placed in
    let after = subst (λ b. Appends (contents mid.to) (contents new.to) (recorded b old.from old.seed later)) here.same.2 seeded in
    Appends-trans (contents old.to) (contents mid.to) (contents new.to) (record_bytes (record_of old.certificates old.seed (saturated old.from first.0.at) first.1)) (recorded old.certificates old.from old.seed later) here.bytes after

-- nothing is a part of a record's bytes
pub none_of : (r : Record) (contents : Option (List ℕ)) → AppendsPart (record_bytes r) contents contents
none_of r contents = (0, omega arith, Appends-nil contents)
