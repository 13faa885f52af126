use Rattle.std.proofs.Common.{◌≡◌, rules, arith, sym, subst, Ok}
use Rattle.s2_bbframe.specs.Headers.{header_of_bytes}
use Rattle.s2_bbframe.proofs.Headers.{header_of_bytes-header_bytes}
use Rattle.s2_bbframe.proofs.header.Header.write.Goals as goal

pub returns-clause-bytes : goal.returns-clause-bytes
returns-clause-bytes c = search rules

pub returns-clause-accepted : goal.returns-clause-accepted
returns-clause-accepted c = λ m valid.
    subst (λ bytes. header_of_bytes m bytes ≡ Ok c.args.self.now) (sym (returns-clause-bytes c)) (header_of_bytes-header_bytes m c.args.self.now c.requires (omega arith) (omega arith) valid)
