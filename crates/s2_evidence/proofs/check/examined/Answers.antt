use Rattle.std.proofs.Common.{rules}
use Rattle.s2_matrix.specs.Code.{code_of}
use Rattle.s2_check.specs.Checking.{split_in}
use Rattle.s2_check.proofs.Strictness.{strictness_lem}
use Rattle.s2_evidence.proofs.check.examined.Goals as goal

pub returns : goal.returns
returns c =
    let rows = c.args.matrix.now in
    let view = c.args.view.now in
    record {
      found = c.examine-found.result;
      checked = search rules;
      strict = c.examine-found.ensures.strict;
      likely = search rules;
      sole = λ yes'. (let s = c.examine-found.ensures.strict.0 yes' in strictness_lem (code_of rows) view.soft (split_in rows view) view.bits s.certificate.accepted s.strict);
      line = search rules;
      ends = search rules;
    }
