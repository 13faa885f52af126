use Rattle.s2_receive.proofs.Names.{◌≡◌, ◌∙◌, ◌-◌, ◌≤◌, min, inl, inr, true, length, take, ap, refl, sym, subst, arith, cases_Bool, take_all, take-take, length-take-le, Window, List, Symbol, Scans, window_of, found_as}
use Rattle.s2_receive.proofs.FindSteps.{frame_takes, moves_on, scanned, none_of, some_of}
use Rattle.s2_receive.proofs.LastSymbols.{dropped_last}
use Rattle.s2_receive.proofs.window.skip_to_header.Goals as goal

pub returns-clause-stands : goal.returns-clause-stands
returns-clause-stands c = λ none size least fits lost.
    let held = c.args.held.now in
    let buffer = c.args.buffer.now in
    let finds = found_as c.args.search.now.sought c.args.max_header_errors in
    let scan = c.look_through-scan.result in
    let all : take held.count buffer ≡ buffer = take_all held.count buffer (omega (arith, c.requires.full)) in
    let scans = subst (λ (l : List Symbol). Scans finds l held.at held.inside held.behind held.skipped scan) (sym all) c.look_through-scan.ensures.scans in
    let long : length (take held.count buffer) ≡ length buffer = ap length all in
    let zero : scan.place ≡ 0 = none_of scan.place none in
    let first : c.min.result ≡ scan.place = omega (arith, c.min.ensures, zero) in
    let now = c.stand_before.new.held in
    let after = c.stand_before.new.buffer in
    let is : window_of now after ≡ scanned (window_of held buffer) scan scan.place = c.stand_before.ensures.window ∙ ap (scanned (window_of held buffer) scan) first in
    let count : now.count ≡ held.count - c.min.result = ap (λ h. h.count) c.stand_before.ensures.held in
    let enough : size ≤ now.count = omega (arith, count, first, zero, c.requires.full, fits) in
    let coded : scan.coded ≡ true = elim (cases_Bool scan.coded) [
      | inl yes_coded ↦ yes_coded
      | inr other ↦ (let short = scans.none other in absurd (omega (arith, short, zero, long, least, fits)))
    ] in
    frame_takes finds lost size (window_of held buffer) scan c.requires.again scans (window_of now after) (length buffer) now.at now.skipped true (take size after) is refl refl coded
    (omega (arith, zero, long, fits)) (omega (arith, long)) least (sym (take-take size now.count after enough))

pub returns-clause-moved : goal.returns-clause-moved
returns-clause-moved c = λ some size least fits lost.
    let held = c.args.held.now in
    let buffer = c.args.buffer.now in
    let finds = found_as c.args.search.now.sought c.args.max_header_errors in
    let scan = c.look_through-scan.result in
    let all : take held.count buffer ≡ buffer = take_all held.count buffer (omega (arith, c.requires.full)) in
    let scans = subst (λ (l : List Symbol). Scans finds l held.at held.inside held.behind held.skipped scan) (sym all) c.look_through-scan.ensures.scans in
    let long : length (take held.count buffer) ≡ length buffer = ap length all in
    let lowest : c.min.result ≡ min scan.place (length (take held.count buffer)) = c.min.ensures ∙ ap (min scan.place) (c.requires.full ∙ sym long) in
    moves_on finds lost size (window_of held buffer) scan c.requires.again scans (window_of c.stand_before.new.held c.stand_before.new.buffer) (length buffer) c.min.result (take size c.stand_before.new.buffer) c.stand_before.ensures.window
    lowest (omega (arith, c.min.ensures, some_of scan.place some, c.requires.full, least, fits)) (omega (arith, long))

pub returns-clause-last : goal.returns-clause-last
returns-clause-last c =
    let held = c.args.held.now in
    let buffer = c.args.buffer.now in
    let is = c.stand_before.ensures.window in
    let few : c.min.result ≤ held.count = omega (arith, c.min.ensures) in
    let long = length-take-le held.count buffer (omega (arith, c.requires.full)) in
    dropped_last c.min.result held.at (take held.count buffer) (window_of c.stand_before.new.held c.stand_before.new.buffer) (omega (arith, long, few)) (ap (λ (w : Window). w.at) is) (ap (λ (w : Window). w.symbols) is)
