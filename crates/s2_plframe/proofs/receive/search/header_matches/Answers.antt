use Rattle.std.proofs.Common.{◌≡◌, ◌≤◌, ◌+◌, ◌∙◌, sym, map, arith}
use Rattle.s2_bits.specs.Bits.{xor, number}
use Rattle.s2_mode.specs.Mode.{mode_of}
use Rattle.s2_plframe.specs.Header.{header_bit}
use Rattle.s2_plframe.specs.Search.{decision, decided}
use Rattle.s2_plframe.proofs.HeaderBits.{byte_small}
use Rattle.s2_plframe.proofs.Mismatches.{mismatches_none, mismatches_more, byte_xor, decided_symbols}
use Rattle.s2_plframe.proofs.receive.search.header_matches.Goals as goal

pub loop-k-init : goal.loop-k-init
loop-k-init c = record {
  few = omega arith;
  counted = sym (mismatches_none (header_bit (mode_of c.pls_code-code.result.modcod c.pls_code-code.result.short c.pls_code-code.result.pilots)) (map decision c.args.symbols.now));
}

pub loop-k-preserved : goal.loop-k-preserved
loop-k-preserved c =
    let k = c.loop-k.k in
    let header = header_bit (mode_of c.pls_code-code.result.modcod c.pls_code-code.result.short c.pls_code-code.result.pilots) in
    let window = map decision c.args.symbols.now in
    let more : c.from-different.result ≡ number (xor (decided window k) (header k)) =
    byte_xor _ _ _ _ _ c.from-different.ensures (c.says_at.ensures ∙ decided_symbols c.args.symbols.now k) c.header_bit.ensures in
    let small : c.from-different.result ≤ 1 = omega (arith, c.from-different.ensures, byte_small) in
    record {
      few = omega arith;
      counted = (λ t. c.loop-k.invariant.counted t + more t) ∙ sym (mismatches_more header window k);
    }
