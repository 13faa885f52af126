-- Frames that are decided by records.
use Rattle.std.proofs.Common.{◌≡◌, ℕ, ℤ, Bool, List, [], Option, Some, None, IfSome, IsSome, ◌↔◌, refl, sym, ap, subst, ◌∙◌}
use Rattle.s2_mode.specs.declared.symbols.Symbol.{Symbol}
use Rattle.s2_rows.specs.Rows.{Rows}
use Rattle.s2_certfile.specs.File.{File}
use Rattle.s2_certfile.specs.Format.{file_of_bytes, front_at}
use Rattle.s2_check.specs.CertificateFiles.{Suits, view_of}
use Rattle.s2_check.specs.Views.{View}
use Rattle.s2_check.specs.declared.verdict.Verdict.{Verdict}
use Rattle.s2_receive.specs.declared.decider.Decided.{Decided}
use Rattle.s2_message.specs.Decisions.{decision_with, message_of, soft_frame}
use Rattle.s2_message.specs.Reading.{DecidesBy, FrameReader, IsSameReader}
use Rattle.s2_stitch.specs.Frames.{certificate_of, decision_by, file_in, frame_at, shown_decision, terms_by}
use Rattle.s2_stitch.specs.Laws.{MadeTrueLaw}
use Rattle.s2_stitch.specs.Records.{Record}

-- no bytes are no file
pub no_file : file_in (file_of_bytes []) ≡ None
unfolding file_of_bytes front_at
no_file = refl

pub made_true : MadeTrueLaw
made_true t decide recording r verdict bits certificate rounds decided is =
    let symbols = frame_at t recording r.at in
    subst (λ v. IfSome v (λ own. decision_by t symbols own r ≡ decide symbols)) (sym is.verdict_is)
    ((λ i. decision_with t.mode t.number t.options symbols (soft_frame t.mode t.number t.options symbols) verdict (is.bits_are i) (is.certificate_is i) (is.rounds_are i)) ∙ sym decided)

pub same_reader : (a b c : FrameReader) → IsSameReader a b → IsSameReader b c → IsSameReader a c
same_reader a b c one two = record { mode = two.mode ∙ one.mode; number = two.number ∙ one.number; options = two.options ∙ one.options }

-- the bits of a record, read by a reader of frames, make the record's decision
module _ (rows : Rows) (seed : ℕ) (old mid new : FrameReader) (verdict : Verdict) (r : Record) (symbols : List Symbol) (soft : List ℤ) (file : Option File) (message : List Bool) (d : Decided) (field : List ℕ) where
  pub decided_by : IsSameReader old mid → soft ≡ soft_frame old.mode old.number old.options symbols → file ≡ file_in (file_of_bytes r.certificate)
      → DecidesBy mid new symbols soft verdict r.bits r.rounds d → message ≡ message_of new.mode new.word → field ≡ new.field
      → shown_decision soft r.bits (certificate_of rows file) message d field ≡ decision_by (terms_by rows seed old) symbols verdict r
  decided_by same soft_is file_is decides message_is field_is =
      let certificate = certificate_of rows file in
      (λ i. shown_decision soft r.bits certificate (message_is i) d (field_is i))
      ∙ decides certificate
      ∙ (λ i. decision_with (same.mode i) (same.number i) (same.options i) symbols (soft_is i) verdict r.bits (certificate_of rows (file_is i)) r.rounds)

-- a certificate that suits the rows is lent as a view
pub lent : (rows : Rows) (file : File) (view : Option View) → Suits rows file → (IsSome view ↔ Suits rows file) → IfSome view (λ v. v ≡ view_of rows file) → view ≡ certificate_of rows (Some file)
lent rows file None suits found value = let none = found.1 suits in cc
lent rows file (Some v) suits found value = ap (λ x. Some x) value
