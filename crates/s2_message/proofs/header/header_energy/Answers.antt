use Rattle.std.proofs.Common.{◌≡◌, ◌+◌, ◌<◌, length, take, pos, refl, sym, ap, ◌∙◌, arith}
use Rattle.std.specs.List.{sum_by}
use Rattle.std.proofs.lemmas.List.Sums.{sum_by_more}
use Rattle.s2_mode.specs.Symbols.{symbol}
use Rattle.s2_message.specs.Header.{symbol_energy, energy_of}
use Rattle.s2_message.proofs.header.header_energy.Goals as goal

pub loop-k-init : goal.loop-k-init
loop-k-init c = record { is = refl; most = omega arith }

pub loop-k-preserved : goal.loop-k-preserved
loop-k-preserved c =
    let inside : c.loop-k.k < length c.args.symbols.now = omega arith in
    record {
      is = (λ t. c.loop-k.invariant.is t + c.symbol_energy-energy.ensures.is t) ∙ sym (sum_by_more symbol_energy c.args.symbols.now c.loop-k.k (symbol (pos 0) (pos 0)) inside);
      most = omega arith;
    }

pub returns : goal.returns
unfolding energy_of
returns c =
    let end : c.loop-k.k ≡ 90 = omega arith in
    c.loop-k.invariant.is ∙ ap (λ n. sum_by symbol_energy (take n c.args.symbols.now)) end
