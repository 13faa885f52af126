use Rattle.std.proofs.Common.{arith, ◌+◌}
use Rattle.s2_field.specs.Gf16 as gf16
use Rattle.s2_field.specs.Gf14 as gf14
use Rattle.s2_mode.specs.Mode.{t_of}
use Rattle.s2_bch.specs.Generators.{generator_of}
use Rattle.s2_bch.proofs.GeneratorFacts.{normal_generator, short_generator}
use Rattle.s2_bch.proofs.CodeFacts.{multiple_has_roots}
use Rattle.s2_bch.proofs.laws.roots.Goals as goal

pub returns-clause-normal : goal.returns-clause-normal
returns-clause-normal c e w is =
    let made = normal_generator c.args.mode c.t.ensures.valid e in
    multiple_has_roots gf16.field gf16.laws gf16.alpha (t_of c.args.mode + t_of c.args.mode)
    (generator_of c.args.mode) w (omega (arith, made.size)) made.roots is

pub returns-clause-short : goal.returns-clause-short
returns-clause-short c e w is =
    let made = short_generator c.args.mode c.t.ensures.valid e in
    multiple_has_roots gf14.field gf14.laws gf14.alpha (t_of c.args.mode + t_of c.args.mode)
    (generator_of c.args.mode) w (omega (arith, made.size)) made.roots is
