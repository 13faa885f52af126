use Rattle.std.proofs.Common.{◌≡◌, ◌≢◌, ◌∙◌, length, sym, arith}
use Rattle.s2_soft.proofs.Columns.{HoldsRows, forward, reversed}
use Rattle.s2_soft.proofs.soft.psk8_into.Goals as goal

pub returns-then-modcod-eq-PSK_3_5 : goal.returns-then-modcod-eq-PSK_3_5
returns-then-modcod-eq-PSK_3_5 c =
    let m = c.args.mode in
    let payload = c.args.payload.now in
    let is : m.modcod ≡ 12 = sym c.modcod.ensures.is ∙ c.if-modcod-eq-PSK_3_5.true in
    let long_1 : length c.columns_into.new.third ≡ length payload = c.columns_into.auto.third ∙ omega arith in
    let long_2 : length c.columns_into.new.second ≡ length payload = c.columns_into.auto.second ∙ omega arith in
    let holds : HoldsRows c.args.divisor payload (length payload) c.columns_into.new.first c.columns_into.new.second c.columns_into.new.third =
    record { first_is = c.columns_into.ensures.first; second_is = c.columns_into.ensures.second; third_is = c.columns_into.ensures.third } in
    reversed c.args.divisor m payload (length payload) _ _ _ c.requires.psk c.requires.rows is long_1 long_2 holds

pub returns-else-modcod-eq-PSK_3_5 : goal.returns-else-modcod-eq-PSK_3_5
returns-else-modcod-eq-PSK_3_5 c =
    let m = c.args.mode in
    let payload = c.args.payload.now in
    let written = c.columns_into-else-modcod-eq-PSK_3_5 in
    let other : m.modcod ≢ 12 = λ e. c.if-modcod-eq-PSK_3_5.false (c.modcod.ensures.is ∙ e) in
    let long_1 : length written.new.first ≡ length payload = written.auto.first ∙ omega arith in
    let long_2 : length written.new.second ≡ length payload = written.auto.second ∙ omega arith in
    let holds : HoldsRows c.args.divisor payload (length payload) written.new.first written.new.second written.new.third =
    record { first_is = written.ensures.first; second_is = written.ensures.second; third_is = written.ensures.third } in
    forward c.args.divisor m payload (length payload) _ _ _ c.requires.psk c.requires.rows other long_1 long_2 holds
