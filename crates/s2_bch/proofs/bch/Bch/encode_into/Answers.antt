use Rattle.std.proofs.Common.{arith, length, sym, ap, subst, refl}
use Rattle.std.specs.Prelude.{drop}
use Rattle.s2_mode.specs.Mode.{HasCodeSizes}
use Rattle.s2_bch.specs.Generators.{generator_of}
use Rattle.s2_bch.specs.Registers.{IsTableFor}
use Rattle.s2_bch.proofs.GeneratorFacts.{HasGenerator, generator_facts}
use Rattle.s2_bch.proofs.Lent.{encoded_word}
use Rattle.s2_bch.proofs.bch.Bch.encode_into.Goals as goal

pub encode_into-requires : goal.encode_into-requires
encode_into-requires c =
    let made' : HasGenerator c.args.self.now = subst HasGenerator c.self.view_is (generator_facts c.self.inside.mode c.self.invariant.valid c.self.invariant.sizes) in
    let table = subst (λ m. IsTableFor (drop 1 (generator_of m)) c.deref.result.now) c.self.view_is
    (subst (IsTableFor (drop 1 (generator_of c.self.inside.mode))) (sym c.deref.ensures.value) c.self.invariant.table_is) in
    let sizes = subst HasCodeSizes c.self.view_is c.self.invariant.sizes in
    record {
      table = table.size;
      whole_bytes = omega (arith, sizes.field, ap length c.truths.ensures, c.requires.message);
      more = omega (arith, made'.size, ap length c.truths.ensures, ap length c.truths_mut.ensures.value, c.requires.message, c.requires.word);
      few = omega (arith, made'.size, table.fits, ap length c.truths.ensures, ap length c.truths_mut.ensures.value, c.requires.message, c.requires.word);
    }

pub returns : goal.returns
returns c =
    let made' : HasGenerator c.args.self.now = subst HasGenerator c.self.view_is (generator_facts c.self.inside.mode c.self.invariant.valid c.self.invariant.sizes) in
    let table = subst (λ m. IsTableFor (drop 1 (generator_of m)) c.deref.result.now) c.self.view_is
    (subst (IsTableFor (drop 1 (generator_of c.self.inside.mode))) (sym c.deref.ensures.value) c.self.invariant.table_is) in
    let made = encoded_word c.args.self.now (drop 1 (generator_of c.args.self.now)) c.args.message.now c.truths.result.now c.args.word.now c.encode_into.new.word
    made' refl c.truths.ensures c.requires.message c.requires.word
    (c.encode_into.ensures (drop 1 (generator_of c.args.self.now)) table
    (omega (arith, made'.size, ap length c.truths.ensures, ap length c.truths_mut.ensures.value, c.requires.message, c.requires.word))) in
    record { is = made.0; word = made.1 }
