-- What a judge says.
use Rattle.std.proofs.Common.{◌≡◌, ℤ, List, ℕ, Bool, Option, subst}
use Rattle.s2_rows.specs.Rows.{Rows}
use Rattle.s2_check.specs.Views.{View}
use Rattle.s2_check.specs.declared.verdict.Verdict.{Verdict}
use Rattle.s2_judge.specs.Deciding.{Decided, IsShown}
use Rattle.s2_io.specs.declared.exit.Exit.{Exit}
use Rattle.s2_judging.specs.Judging.{Says, SaysDecided, changed_of}

-- the line and the exit of a verdict are those of what is decided
pub says : (hard : Bool) (rows : Rows) (soft : List ℤ) (d : Decided) (v : Verdict) (bits : List Bool) (exit : Exit) (text : List ℕ)
    → v ≡ d.verdict → bits ≡ d.bits → Says v rows soft bits (changed_of hard soft bits) exit text → SaysDecided hard d rows soft exit text
says hard rows soft d v bits exit text p q h =
    let P : Verdict → Type 0 = λ x. Says x rows soft bits (changed_of hard soft bits) exit text in
    let Q : List Bool → Type 0 = λ x. Says d.verdict rows soft x (changed_of hard soft x) exit text in
    subst Q q (subst P p h)

-- so is the certificate
pub shown : (rows : Rows) (soft : List ℤ) (d : Decided) (v : Verdict) (bits : List Bool) (certificate : Option View)
    → v ≡ d.verdict → bits ≡ d.bits → certificate ≡ d.certificate → IsShown rows soft (record { verdict = v; bits = bits; certificate = certificate }) → IsShown rows soft d
shown rows soft d v bits certificate p q r h =
    let A : Verdict → Type 0 = λ x. IsShown rows soft (record { verdict = x; bits = bits; certificate = certificate }) in
    let B : List Bool → Type 0 = λ x. IsShown rows soft (record { verdict = d.verdict; bits = x; certificate = certificate }) in
    let C : Option View → Type 0 = λ x. IsShown rows soft (record { verdict = d.verdict; bits = d.bits; certificate = x }) in
    subst C r (subst B q (subst A p h))
