-- What a sender writes of a codeword, and that a receiver writes the same.
use Rattle.std.proofs.Common.{◌≡◌, ℕ, ◌<◌, ◌≤◌, if◌then◌else◌, Bool, true, List, Option, Result, Ok, Err, OnOk, OnErr, length, take, refl, ap, ◌∙◌, subst, length-take-le}
use Rattle.std.specs.Option.{is_some}
use Rattle.std.specs.Io.KnownBytes.{Appends}
use Rattle.std.proofs.lemmas.Bool.{eq-eqb, lt-ltb, le-ltb}
use Rattle.s2_mode.specs.Mode.{Mode, kbch_of}
use Rattle.s2_mode.specs.Pieces.{AppendsPart}
use Rattle.s2_certfile.specs.Field.{bytes_of_bits}
use Rattle.s2_scramble.specs.Baseband.{scrambled}
use Rattle.s2_receive.specs.Receiving.{Decision}
use Rattle.s2_records.specs.Records.{has_bbframe, no_bbframe}
use Rattle.s2_records.specs.Sent.{BothEndsLaw, sent_bbframe}

-- zeros for a word with fewer bits than a message
none_is : (m : Mode) (codeword : List Bool) (zeros : List ℕ) → length codeword < kbch_of m → zeros ≡ no_bbframe m → zeros ≡ sent_bbframe m codeword
none_is m codeword zeros short none = rw (lt-ltb (length codeword) (kbch_of m) short) none

-- else the message
message_is : (m : Mode) (codeword message : List Bool) → kbch_of m ≤ length codeword → message ≡ take (kbch_of m) codeword → bytes_of_bits (scrambled message) ≡ sent_bbframe m codeword
message_is m codeword message long same = rw (le-ltb (length codeword) (kbch_of m) long) (ap (λ bits. bytes_of_bits (scrambled bits)) same)

module _ (m : Mode) (codeword : List Bool) (bytes : List ℕ) (is : bytes ≡ sent_bbframe m codeword) (a b : Option (List ℕ)) where
  bytes_taken : {T E : Type 0} (r : Result T E) → OnOk r (Appends a b bytes) → OnOk r ((m ≡ m) × Appends a b (sent_bbframe m codeword))
  bytes_taken (Ok done) h = (refl, subst (Appends a b) is h)
  bytes_taken (Err fault) h = tt

  bytes_fail : {T E : Type 0} (r : Result T E) → OnErr r (AppendsPart bytes a b) → OnErr r ((m ≡ m) × AppendsPart (sent_bbframe m codeword) a b)
  bytes_fail (Ok done) h = tt
  bytes_fail (Err fault) h = (refl, subst (λ l. AppendsPart l a b) is h)

module _ (m : Mode) (codeword : List Bool) (a b : Option (List ℕ)) {T E : Type 0} (r : Result T E) where
  pub zeros_taken : (zeros : List ℕ) → length codeword < kbch_of m → zeros ≡ no_bbframe m → OnOk r (Appends a b zeros) → OnOk r ((m ≡ m) × Appends a b (sent_bbframe m codeword))
  zeros_taken zeros short none h = bytes_taken m codeword zeros (none_is m codeword zeros short none) a b r h

  pub zeros_fail : (zeros : List ℕ) → length codeword < kbch_of m → zeros ≡ no_bbframe m → OnErr r (AppendsPart zeros a b) → OnErr r ((m ≡ m) × AppendsPart (sent_bbframe m codeword) a b)
  zeros_fail zeros short none h = bytes_fail m codeword zeros (none_is m codeword zeros short none) a b r h

  pub message_taken : (message : List Bool) → kbch_of m ≤ length codeword → message ≡ take (kbch_of m) codeword
      → OnOk r (Appends a b (bytes_of_bits (scrambled message))) → OnOk r ((m ≡ m) × Appends a b (sent_bbframe m codeword))
  message_taken message long same h = bytes_taken m codeword _ (message_is m codeword message long same) a b r h

  pub message_fails : (message : List Bool) → kbch_of m ≤ length codeword → message ≡ take (kbch_of m) codeword
      → OnErr r (AppendsPart (bytes_of_bits (scrambled message)) a b) → OnErr r ((m ≡ m) × AppendsPart (sent_bbframe m codeword) a b)
  message_fails message long same h = bytes_fail m codeword _ (message_is m codeword message long same) a b r h

-- a delivered frame has its message
has_it : (m : Mode) (decision : Decision) → is_some decision.delivered ≡ true → length decision.message ≡ kbch_of m → has_bbframe m decision ≡ true
has_it m decision delivered long = rw delivered (eq-eqb (length decision.message) (kbch_of m) long)

pub both_ends_lem : BothEndsLaw
both_ends_lem m decision codeword long delivered word message =
    let size : length decision.message ≡ kbch_of m = ap length message ∙ length-take-le (kbch_of m) codeword long in (
      ap bytes_of_bits word,
      ap (λ (has : Bool). if has then bytes_of_bits (scrambled decision.message) else no_bbframe m) (has_it m decision delivered size)
          ∙ message_is m codeword decision.message long message,
    )
