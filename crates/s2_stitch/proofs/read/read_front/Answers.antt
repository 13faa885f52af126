use Rattle.std.proofs.Common.{ℕ, List, None, ◌≡◌, ◌++◌, ◌∷◌, rules, subst, ◌∙◌, take, get_or, length}
use Rattle.std.specs.Io.KnownBytes.{Consumes}
use Rattle.std.proofs.lemmas.List.{take_all}
use Rattle.s2_stitch.specs.Reading.{IsFront}
use Rattle.s2_stitch.specs.Records.{record_at}
use Rattle.s2_stitch.proofs.RecordLemmas.{cut_front, no_front, front_bytes}
use Rattle.s2_stitch.proofs.read.read_front.Goals as goal

pub returns-then-count-lt-FRONT_BYTES-clause-reads : goal.returns-then-count-lt-FRONT_BYTES-clause-reads
returns-then-count-lt-FRONT_BYTES-clause-reads g c =
    let read : Consumes (g.R.CountedRead.remaining c.args.reader.now) (g.R.CountedRead.remaining c.read_full.new.reader) (take c.in_ok-count.count c.read_full.new.buf) = search rules in
    cut_front _ _ _ read (search rules) (search rules)

pub returns-in-Some-clause-reads : goal.returns-in-Some-clause-reads
returns-in-Some-clause-reads g c =
    let buf = c.read_full.new.buf in
    let long : length buf ≡ 25 = search rules in
    let read : Consumes (g.R.CountedRead.remaining c.args.reader.now) (g.R.CountedRead.remaining c.read_full.new.reader) (take c.in_ok-count.count buf) = search rules in
    let full : take c.in_ok-count.count buf ≡ buf = take_all c.in_ok-count.count buf (search (rules, long)) in
    let all = subst (λ l. Consumes (g.R.CountedRead.remaining c.args.reader.now) (g.R.CountedRead.remaining c.read_full.new.reader) l) (full ∙ front_bytes buf long) read in
    let is : IsFront (take 24 buf) (get_or buf 24 0) c.in-Some.front = search rules in
    (take 24 buf, get_or buf 24 0, all, is)

pub returns-in-None-clause-reads : goal.returns-in-None-clause-reads
returns-in-None-clause-reads g c =
    let buf = c.read_full.new.buf in
    let long : length buf ≡ 25 = search rules in
    let read : Consumes (g.R.CountedRead.remaining c.args.reader.now) (g.R.CountedRead.remaining c.read_full.new.reader) (take c.in_ok-count.count buf) = search rules in
    let full : take c.in_ok-count.count buf ≡ buf = take_all c.in_ok-count.count buf (search (rules, long)) in
    let all = subst (λ l. Consumes (g.R.CountedRead.remaining c.args.reader.now) (g.R.CountedRead.remaining c.read_full.new.reader) l) (full ∙ front_bytes buf long) read in
    let none : (n : ℕ) (rest : List ℕ) → record_at n (take 24 buf ++ (get_or buf 24 0 ∷ rest)) ≡ None = search rules in
    no_front (g.R.CountedRead.remaining c.args.reader.now) (g.R.CountedRead.remaining c.read_full.new.reader) (take 24 buf) (get_or buf 24 0) all none
