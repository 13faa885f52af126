use Rattle.std.proofs.Common.{◌≡◌, ◌<◌, rules, subst}
use Rattle.s2_stitch.specs.Records.{front, max_certificate}
use Rattle.s2_stitch.proofs.RecordLemmas.{no_verdict, too_long}
use Rattle.s2_stitch.proofs.read.front_in.Goals as goal

pub returns-then-size-gt-MAX_CERTIFICATE : goal.returns-then-size-gt-MAX_CERTIFICATE
returns-then-size-gt-MAX_CERTIFICATE c = λ n rest. (
    let size_is : c.number32-size.result ≡ (front.value c.args.numbers.now).1.1.1 = search rules in
    let more : max_certificate < c.number32-size.result = search rules in
    too_long n c.args.numbers.now c.args.byte rest c.requires (subst (λ s. max_certificate < s) size_is more)
    )

pub returns-in-Some : goal.returns-in-Some
returns-in-Some c =
    let at_is : (front.value c.args.numbers.now).0 ≡ c.number64.result = search rules in
    let seal_is : (front.value c.args.numbers.now).1.0 ≡ c.number64-in-Some.result = search rules in
    let rounds_is : (front.value c.args.numbers.now).1.1.0 ≡ c.number32.result = search rules in
    let size_is : (front.value c.args.numbers.now).1.1.1 ≡ c.number32-size.result = search rules in
    record {
      long = c.requires;
      numbers = λ i. (at_is i, (seal_is i, (rounds_is i, size_is i)));
      verdict = search rules;
      few = search rules;
    }

pub returns-in-None : goal.returns-in-None
returns-in-None c = λ n rest. no_verdict n c.args.numbers.now c.args.byte rest c.requires (search rules)
