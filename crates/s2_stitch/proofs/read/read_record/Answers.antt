use Rattle.std.proofs.Common.{◌≡◌, ◌+◌, ◌/◌, ◌<◌, rules, arith, ap, subst, ◌∙◌, length, IfSome, Ok}
use Rattle.s2_certfile.specs.Field.{bit_list}
use Rattle.s2_stitch.specs.Reading.{ReadsFront}
use Rattle.s2_stitch.proofs.RecordLemmas.{cut_certificate, cut_word, whole, word_is}
use Rattle.s2_stitch.proofs.read.read_record.Goals as goal

pub returns-in_err-word-clause-none : goal.returns-in_err-word-clause-none
returns-in_err-word-clause-none g c = λ is. (
    let n = c.args.bits in
    let size : c.div_ceil.result ≡ (n + 7) / 8 = omega (arith, c.div_ceil.ensures) in
    let (head, byte, read, front) = subst (λ x. ReadsFront (g.R.CountedRead.remaining c.args.reader.now) (g.R.CountedRead.remaining c.read_front.new.reader) (Ok x)) c.in-Some.is c.in_ok-front.ensures.reads in
    let few = subst (λ m. IfSome (g.R.CountedRead.remaining c.read_front.new.reader) (λ xs. length xs < m)) size (c.in_err-word.ensures.fewer (search (rules, is))) in
    cut_word n head byte c.in-Some.front front (g.R.CountedRead.remaining c.args.reader.now) (g.R.CountedRead.remaining c.read_front.new.reader) read few
    )

pub returns-in_err-certificate-clause-none : goal.returns-in_err-certificate-clause-none
returns-in_err-certificate-clause-none g c = λ is. (
    let n = c.args.bits in
    let size : c.div_ceil.result ≡ (n + 7) / 8 = omega (arith, c.div_ceil.ensures) in
    let (head, byte, read, front) = subst (λ x. ReadsFront (g.R.CountedRead.remaining c.args.reader.now) (g.R.CountedRead.remaining c.read_front.new.reader) (Ok x)) c.in-Some.is c.in_ok-front.ensures.reads in
    cut_certificate n head byte c.in-Some.front front (g.R.CountedRead.remaining c.args.reader.now) (g.R.CountedRead.remaining c.read_front.new.reader) (g.R.CountedRead.remaining c.read_bytes.new.reader)
    c.in_ok-word.word.items (c.in_ok-word.ensures.bytes.0 ∙ size) read c.in_ok-word.ensures.bytes.1 (c.in_err-certificate.ensures.fewer (search (rules, is)))
    )

pub returns-in-Ok-clause-reads : goal.returns-in-Ok-clause-reads
returns-in-Ok-clause-reads g c =
    let n = c.args.bits in
    let size : c.div_ceil.result ≡ (n + 7) / 8 = omega (arith, c.div_ceil.ensures) in
    let (head, byte, read, front) = subst (λ x. ReadsFront (g.R.CountedRead.remaining c.args.reader.now) (g.R.CountedRead.remaining c.read_front.new.reader) (Ok x)) c.in-Some.is c.in_ok-front.ensures.reads in
    let long : length c.in-Ok.word ≡ n = c.in-Ok.ensures.0 in
    let bits_are = word_is n c.deref.result.now c.in-Ok.word long c.in-Ok.ensures.1 ∙ ap (bit_list n).value c.deref.ensures.value in (
      whole n head byte c.in-Some.front front (g.R.CountedRead.remaining c.args.reader.now) (g.R.CountedRead.remaining c.read_front.new.reader) (g.R.CountedRead.remaining c.read_bytes.new.reader) (g.R.CountedRead.remaining c.read_bytes-2.new.reader)
          c.in_ok-word.word.items c.in_ok-certificate.certificate.items c.in-Ok.word (c.in_ok-word.ensures.bytes.0 ∙ size) c.in_ok-certificate.ensures.bytes.0 bits_are read c.in_ok-word.ensures.bytes.1 c.in_ok-certificate.ensures.bytes.1,
      long,
    )
