use Rattle.s2_matrix.specs.Code.{code_of}
use Rattle.s2_check.specs.Checking.{split_in}
use Rattle.s2_check.specs.Strict.{IsStrict}
use Rattle.s2_check.proofs.Strictness.{strictness_lem}
use Rattle.s2_check.proofs.checker.sole.Goals as goal

pub returns-clause-alone : goal.returns-clause-alone
returns-clause-alone c =
    let r = c.args.matrix.now in
    let v = c.args.view.now in
    λ yes'. (
    let strict : IsStrict r v = c.examine.ensures.strict.0 yes' in
    strictness_lem (code_of r) v.soft (split_in r v) v.bits strict.certificate.accepted strict.strict
    )
