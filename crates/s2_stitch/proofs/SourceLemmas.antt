-- What a source of recorded frames reads.
use Rattle.std.proofs.Common.{◌≡◌, ◌≢◌, ℕ, ◌+◌, ◌-◌, ◌*◌, ◌<◌, ◌≤◌, max, Bool, true, false, List, [], ◌∷◌, ◌++◌, length, take, drop, Option, Some, None, IfSome, IfOk, Result, Ok, Err, inl, inr, refl, sym, ap, subst, ◌∙◌, arith, append_assoc, length-append}
use Rattle.std.proofs.KnownBytes.{Consumes-nil, Consumes-trans}
use Rattle.std.proofs.lemmas.List.{drop-drop, drop_at, nil_from_length, take_at}
use Rattle.std.specs.Io.KnownBytes.{Consumes, IsAtEnd}
use Rattle.s2_mode.proofs.SymbolLists.{length-symbols, symbols-append}
use Rattle.s2_mode.specs.Mode.{n_of, symbols_in}
use Rattle.s2_mode.specs.Symbols.{YieldsSymbol, symbols_of}
use Rattle.s2_mode.specs.declared.symbols.Symbol.{Symbol}
use Rattle.s2_rows.specs.Rows.{Rows}
use Rattle.s2_receive.specs.Receiving.{Decision}
use Rattle.s2_stitch.specs.Copies.{CopiesFrame, CopiesTo, CountsCopy, ReadsSymbols, SkipsSymbols}
use Rattle.s2_stitch.specs.Frames.{IsFrameOf, IsTrueRecord, RecordedFrame, Terms, decision_by, frame_at}
use Rattle.s2_stitch.specs.Reading.{CountsRead, ReadsRecord}
use Rattle.s2_stitch.specs.Records.{AreRecords, Record}
use Rattle.s2_stitch.specs.Sources.{ArePassed, AreRead, AreTrueIn, AreTrueLeft, CountsSource, Gives, GivesBy, IsCopyFrom, IsOfUse, IsOpen, ReadsNext, ReadsResult, RecordSource, fault_in}
use Rattle.s2_stitch.specs.Usable.{CopiesUsable, IsUsable, ReadsUsable}
use Rattle.s2_stitch.specs.declared.fault.SourceFault.{SourceFault}
use Rattle.s2_stitch.specs.declared.fault.SourceFault.TheVariants as faults
use Rattle.s2_stitch.specs.declared.next.Usable.{Usable}
use Rattle.s2_stitch.specs.declared.read.RecordFault.{RecordFault}
use Rattle.s2_stitch.specs.declared.read.RecordFault.TheVariants as record_faults

-- ---- records

are_both : (n : ℕ) (one two : List Record) (a b c : List ℕ) → AreRecords n one a b → AreRecords n two b c → AreRecords n (one ++ two) a c
are_both n [] two a b c is are = subst (λ l. AreRecords n two l c) (sym is) are
are_both n (r ∷ one) two a b c (left, is, later) are = (left, is, are_both n one two left b c later are)

pub read_both : (n : ℕ) (one two : List Record) (a b c : Option (List ℕ)) → AreRead n one a b → AreRead n two b c → AreRead n (one ++ two) a c
read_both n one two None b c is are = tt
read_both n one two (Some x) None c is are = absurd is
read_both n one two (Some x) (Some y) None is are = absurd are
read_both n one two (Some x) (Some y) (Some z) is are = are_both n one two x y z is are

pub read_none : (n : ℕ) (a b : Option (List ℕ)) → Consumes a b [] → AreRead n [] a b
read_none n None b read = tt
read_none n (Some x) None read = absurd read
read_none n (Some x) (Some y) read = read

read_one : (n : ℕ) (r : Record) (a b : Option (List ℕ)) → ReadsRecord n a b (Ok (Some r)) → AreRead n (r ∷ []) a b
read_one n r None b reads = tt
read_one n r (Some x) None reads = absurd reads.0
read_one n r (Some x) (Some y) reads = (y, reads.0, refl)

-- one record more
pub read_more : (n : ℕ) (passed : List Record) (r : Record) (a b c : Option (List ℕ)) → AreRead n passed a b → ReadsRecord n b c (Ok (Some r)) → AreRead n (passed ++ r ∷ []) a c
read_more n passed r a b c are reads = read_both n passed (r ∷ []) a b c are (read_one n r b c reads)

-- the end
pub read_end : (n : ℕ) (passed : List Record) (a b c : Option (List ℕ)) → AreRead n passed a b → ReadsRecord n b c (Ok None) → AreRead n passed a c
read_end n passed a None c are reads = at a are
  where
    at : (a : Option (List ℕ)) → AreRead n passed a None → AreRead n passed a c
    at None so = tt
    at (Some x) so = absurd so
read_end n passed a (Some y) None are reads = absurd reads.0
read_end n passed None (Some y) (Some z) are reads = tt
read_end n passed (Some x) (Some y) (Some z) are reads = subst (λ l. AreRecords n passed x l) reads.0 are

-- a record that is of no use is passed, too
pub passed_more : (rows : Rows) (from : ℕ) (passed : List Record) (r : Record) → ArePassed rows from passed → ¬ IsOfUse rows from r → ArePassed rows from (passed ++ r ∷ [])
passed_more rows from [] r are none = (none, tt)
passed_more rows from (first ∷ later) r are none = (are.0, passed_more rows from later r are.1 none)

-- a record that may come from one position on may come from an earlier one
pub usable_from : (rows : Rows) (n from start : ℕ) (u : Usable) → start ≤ from → IsUsable rows n from u → IsUsable rows n start u
usable_from rows n from start u before is = let ahead = is.of_use.ahead in record { bits = is.bits; certificate = is.certificate; of_use = record { ahead = omega (arith, before, ahead); reached = is.of_use.reached; suits = is.of_use.suits } }

-- ---- the copy

pub skips_none : (a : Option (List ℕ)) → SkipsSymbols 0 a a true
skips_none a = ([], omega arith, Consumes-nil a)

-- one symbol more
pub skips_more : (k : ℕ) (a b c : Option (List ℕ)) (symbol : Symbol) → SkipsSymbols k a b true → YieldsSymbol b c (Some symbol) → SkipsSymbols (k + 1) a c true
skips_more k a b c symbol (bytes, long, read) (four, four_long, is, more) = (bytes ++ four, omega (arith, length-append bytes four, long, four_long), Consumes-trans a b c bytes four read more)

-- the end
pub skips_end : (k n : ℕ) (a b c : Option (List ℕ)) → SkipsSymbols k a b true → YieldsSymbol b c None → SkipsSymbols n a c false
skips_end k n a b c (bytes, long, read) (few, short, more, end) = (bytes ++ few, Consumes-trans a b c bytes few read more, end)

-- a copy at its end is one from any position on
ends : (recording : List Symbol) (place : ℕ) (a c : Option (List ℕ)) (bytes : List ℕ) → Consumes a c bytes → IsAtEnd c → IsCopyFrom recording place a → IsCopyFrom recording place c
ends recording place None c bytes read end from = absurd from
ends recording place (Some xs) None bytes read end from = absurd read
ends recording place (Some xs) (Some zs) bytes read end from = λ other. absurd (other end)

-- symbols were skipped
pub copies_to : (at place : ℕ) (a b : Option (List ℕ)) → place ≤ at → SkipsSymbols (at - place) a b true → CopiesTo at place at a b true
copies_to at place a b after skips = (λ recording from. passed recording a b skips from, refl)
  where
    passed : (recording : List Symbol) (a b : Option (List ℕ)) → SkipsSymbols (at - place) a b true → IsCopyFrom recording place a → IsCopyFrom recording at b
    passed recording None b skips from = absurd from
    passed recording (Some xs) None (bytes, long, read) from = absurd read
    passed recording (Some xs) (Some ys) (bytes, long, read) from = λ some.
        let there = from (λ none. some (nil_from_length ys (omega (arith, ap length none, ap length read, length-append bytes ys)))) in
        let place_is : place + (at - place) ≡ at = omega (arith, after) in
        let count : length (symbols_of bytes) ≡ at - place = length-symbols (at - place) bytes long in
        ap (λ k. drop k recording) (sym place_is) ∙ sym (drop-drop (at - place) place recording) ∙ ap (drop (at - place)) (there ∙ ap symbols_of read ∙ symbols-append (at - place) bytes ys long) ∙ drop_at (symbols_of bytes) (symbols_of ys) (at - place) count

-- or too few were left
pub copies_to_end : (at place k : ℕ) (a c : Option (List ℕ)) → SkipsSymbols k a c false → CopiesTo at place place a c false
copies_to_end at place k a c (bytes, read, end) = (λ recording from. ends recording place a c bytes read end from, end)

-- a frame is copied
copied : (recording : List Symbol) (size at : ℕ) (ys zs more : List ℕ) → 0 < size → ys ≡ more ++ zs → length more ≡ 4 * size → (ys ≢ [] → drop at recording ≡ symbols_of ys)
    → (drop (at + size) recording ≡ symbols_of zs) × (symbols_of more ≡ take size (drop at recording))
copied recording size at ys zs more some next_is more_long from =
    let there = from (λ none. absurd (omega (arith, ap length none, ap length next_is, length-append more zs, more_long, some))) in
    let count : length (symbols_of more) ≡ size = length-symbols size more more_long in
    let here : drop at recording ≡ symbols_of more ++ symbols_of zs = there ∙ ap symbols_of next_is ∙ symbols-append size more zs more_long in (
      sym (drop-drop size at recording) ∙ ap (drop size) here ∙ drop_at (symbols_of more) (symbols_of zs) size count,
      sym (ap (take size) here ∙ take_at (symbols_of more) (symbols_of zs) size count),
    )

-- all of a frame was read
pub copies_whole : (size at place : ℕ) (a b c : Option (List ℕ)) (symbols : List Symbol) → 0 < size → CopiesTo at place at a b true → ReadsSymbols size b c (Some symbols) → CopiesFrame size at place (at + size) a c (Some symbols)
copies_whole size at place a b c symbols some (copies, there) reads = λ recording from. read recording b c reads (copies recording from)
  where
    read : (recording : List Symbol) (b c : Option (List ℕ)) → ReadsSymbols size b c (Some symbols) → IsCopyFrom recording at b → IsCopyFrom recording (at + size) c × (symbols ≡ take size (drop at recording))
    read recording None c reads from = absurd from
    read recording (Some ys) None (more, more_long, is, next_is) from = absurd next_is
    read recording (Some ys) (Some zs) (more, more_long, is, next_is) from = (
        let (left, own) = copied recording size at ys zs more some next_is more_long from in (λ other. left, is ∙ own)
        )

-- too few symbols are left
pub copies_cut : (size at place : ℕ) (a b c : Option (List ℕ)) → CopiesTo at place at a b true → ReadsSymbols size b c None → CopiesFrame size at place at a c None
copies_cut size at place a b c (copies, there) (more, read, end) = (λ recording from. ends recording at b c more read end (copies recording from), end)

-- ---- the frame of a record

-- its symbols are those of the copy
pub copied_frame : (t : Terms) (r : Record) (size place place_new : ℕ) (a c : Option (List ℕ)) (symbols : List Symbol) (f : RecordedFrame) → size ≡ symbols_in t.mode → CopiesFrame size r.at place place_new a c (Some symbols) → f.symbols ≡ symbols → IsFrameOf t r f
    → CopiesUsable t r place place_new a c (Some f)
copied_frame t r size place place_new a c symbols f size_is copies own is = (
  λ recording from. (
      let (left, symbols_are) = copies recording from in
      (left, own ∙ symbols_are ∙ (λ i. take (size_is i) (drop (sym is.place i) recording)))
      ),
  is,
)

-- no frame
pub copied_none : (t : Terms) (r : Record) (size place place_new : ℕ) (a c : Option (List ℕ)) → CopiesFrame size r.at place place_new a c None → CopiesUsable t r place place_new a c None
copied_none t r size place place_new a c (copies, end) = (λ recording from. (copies recording from, tt), inl end)

-- the copy is read up to an end record
pub copied_end : (t : Terms) (r : Record) (place place_new : ℕ) (a c : Option (List ℕ)) (is_there : Bool) → r.verdict ≡ None → CopiesTo (r.at + 1) place place_new a c is_there → CopiesUsable t r place place_new a c None
copied_end t r place place_new a c true none (copies, there) = (λ recording from. (copies recording from, tt), inr (none, there))
copied_end t r place place_new a c false none (copies, end) = (λ recording from. (copies recording from, tt), inl end)

-- ---- the next frame

-- a record was read, and then its frame
pub reads_frame : (t : Terms) (at place place_new : ℕ) (a b c d : Option (List ℕ)) (u : Usable) (result : Result (Option RecordedFrame) SourceFault) → ReadsUsable t.rows (n_of t.mode) (max at place) a b (Some u) → max at place ≤ u.record.at
    → IfOk result (CopiesUsable t u.record place place_new c d) → ReadsResult t at place place_new a b c d result
reads_frame t at place place_new a b c d u (Ok None) (passed, are, none) from (copies, inl end) = record { reads = (passed ++ u.record ∷ [], are); copies = copies; from = tt; none = λ e. inl (inr end) }
reads_frame t at place place_new a b c d u (Ok None) (passed, are, none) from (copies, inr (no_verdict, there)) =
    record { reads = (passed ++ u.record ∷ [], are); copies = copies; from = tt; none = λ e. inr (passed, u.record, are, no_verdict, there) }
reads_frame t at place place_new a b c d u (Ok (Some f)) (passed, are, none) from (copies, is) =
    record { reads = (passed, u.record, are, none, is); copies = copies; from = subst (λ k. max at place ≤ k) (sym is.place) from; none = λ e. cc }
reads_frame t at place place_new a b c d u (Err fault) reads from copies = tt

-- there is no record left
pub reads_none : (t : Terms) (at place : ℕ) (a b c : Option (List ℕ)) → ReadsUsable t.rows (n_of t.mode) (max at place) a b None → ReadsResult t at place place a b c c (Ok None)
reads_none t at place a b c (passed, are, end) = record { reads = (passed, are); copies = λ recording from. (from, tt); from = tt; none = λ e. inl (inl end) }

-- what was counted
pub counts_frame : (q q' c c' : ℕ) (result : Result (Option RecordedFrame) SourceFault) → q' ≡ q → CountsCopy c c' result → CountsSource (fault_in result) q q' c c'
counts_frame q q' c c' (Ok frame) same counts = (same, counts)
counts_frame q q' c c' (Err (faults.Records fault)) same counts = absurd counts
counts_frame q q' c c' (Err faults.Recording) same counts = (same, counts)
counts_frame q q' c c' (Err faults.OtherRecording) same counts = (same, counts)
counts_frame q q' c c' (Err faults.NoMemory) same counts = (same, counts)

pub counts_record : (q q' c : ℕ) (fault : RecordFault) → CountsRead {A = Option Usable} q q' (Err fault) → CountsSource (fault_in {A = Option RecordedFrame} (Err (faults.Records fault))) q q' c c
counts_record q q' c record_faults.Read counts = (counts, refl)
counts_record q q' c record_faults.NotARecord counts = (counts, refl)
counts_record q q' c record_faults.NoMemory counts = (counts, refl)

-- ---- a source

module _ (at : ℕ) (old new : RecordSource) where
  -- it gives what was read
  pub gives_frame : (frame : Option RecordedFrame) → new.terms ≡ old.terms → IsOpen at old → new.fault ≡ None
      → ReadsResult old.terms at old.place new.place old.records new.records old.copy new.copy (Ok frame)
      → CountsSource None old.record_reads new.record_reads old.copy_reads new.copy_reads → Gives at old new frame
  gives_frame frame terms is_open still reads counts = record {
    terms = terms;
    gives = λ e. subst (λ f. GivesBy f at old new frame) (sym still) reads;
    counts = λ e. subst (λ f. CountsSource f old.record_reads new.record_reads old.copy_reads new.copy_reads) (sym still) counts;
    closed = λ other. absurd (other is_open);
  }

  -- or it stops with a fault
  pub gives_fault : (fault : SourceFault) → new.terms ≡ old.terms → IsOpen at old → new.fault ≡ Some fault
      → CountsSource (Some fault) old.record_reads new.record_reads old.copy_reads new.copy_reads → Gives at old new None
  gives_fault fault terms is_open is counts = record {
    terms = terms;
    gives = λ e. subst (λ f. GivesBy f at old new None) (sym is) refl;
    counts = λ e. subst (λ f. CountsSource f old.record_reads new.record_reads old.copy_reads new.copy_reads) (sym is) counts;
    closed = λ other. absurd (other is_open);
  }

-- if it is closed it stays as it is
pub gives_nothing : (at : ℕ) (s : RecordSource) → ¬ IsOpen at s → Gives at s s None
gives_nothing at s is_closed = record {
  terms = refl;
  gives = λ is_open. absurd (is_closed is_open);
  counts = λ whole. subst (λ f. CountsSource f s.record_reads s.record_reads s.copy_reads s.copy_reads) (sym whole) (refl, refl);
  closed = λ other. (refl, refl);
}

-- ---- true records

module _ (t : Terms) (decide : List Symbol → Decision) (recording : List Symbol) where
  -- the records that are left are true, too
  still_true : (read : List Record) (a b : Option (List ℕ)) → AreRead (n_of t.mode) read a b → AreTrueIn t decide recording a → AreTrueIn t decide recording b
  still_true read None b are all = absurd all
  still_true read (Some x) None are all = absurd are
  still_true read (Some x) (Some y) are all = λ before r rest more.
      all (read ++ before) r rest (subst (λ l. AreRecords (n_of t.mode) l x rest) (sym (append_assoc read before (r ∷ []))) (are_both (n_of t.mode) read (before ++ r ∷ []) x y rest are more))

  -- and the last one that was read
  true_last : (passed : List Record) (r : Record) (a b : Option (List ℕ)) → AreRead (n_of t.mode) (passed ++ r ∷ []) a b → AreTrueIn t decide recording a → IsTrueRecord t decide recording r
  true_last passed r None b are all = absurd all
  true_last passed r (Some x) None are all = absurd are
  true_last passed r (Some x) (Some y) are all = all passed r y are

  -- so the frame of a true record has the rule's decision
  true_frame : (r : Record) (f : RecordedFrame) → IsFrameOf t r f → f.symbols ≡ frame_at t recording f.at → IsTrueRecord t decide recording r → f.decision ≡ decide f.symbols
  true_frame r f is own so =
      let there : f.symbols ≡ frame_at t recording r.at = own ∙ ap (frame_at t recording) is.place in
      let (verdict, verdict_is, decided) = is.decided in
      let true_is = subst (λ v. IfSome v (λ verdict. decision_by t (frame_at t recording r.at) verdict r ≡ decide (frame_at t recording r.at))) verdict_is so in
      decided ∙ ap (λ s. decision_by t s verdict r) there ∙ true_is ∙ ap decide (sym there)

-- after the next frame was read, all is still true
module _ (decide : List Symbol → Decision) (at : ℕ) (old new : RecordSource) (terms : new.terms ≡ old.terms) where
  left_true : (recording : List Symbol) (read : List Record) → AreRead (n_of old.terms.mode) read old.records new.records → IsCopyFrom recording new.place new.copy → AreTrueIn old.terms decide recording old.records → AreTrueLeft decide new
  left_true recording read are copy_is all =
      record { recording = recording; copy_is = copy_is; true_are = subst (λ t. AreTrueIn t decide recording new.records) (sym terms) (still_true old.terms decide recording read old.records new.records are all) }

  pub true_next : (frame : Option RecordedFrame) → ReadsNext old.terms at old.place new.place old.records new.records old.copy new.copy frame → AreTrueLeft decide old → AreTrueLeft decide new × IfSome frame (λ f. f.decision ≡ decide f.symbols)
  true_next None reads all =
      let (passed, are) = reads.reads in
      let (copy_is, nothing) = reads.copies all.recording all.copy_is in
      (left_true all.recording passed are copy_is all.true_are, tt)
  true_next (Some f) reads all =
      let (passed, r, are, none, is) = reads.reads in
      let (copy_is, own) = reads.copies all.recording all.copy_is in (
        left_true all.recording (passed ++ r ∷ []) are copy_is all.true_are,
        true_frame old.terms decide all.recording r f is own (true_last old.terms decide all.recording passed r old.records new.records are all.true_are),
      )
