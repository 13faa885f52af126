use Rattle.std.proofs.Common.{◌≡◌, ◌+◌, ◌-◌, ◌*◌, ◌≤◌, length, drop, length-drop, true, false, ℕ, List, ◌++◌, OnOk, append-nil, ap, sym, subst, ◌∙◌, arith}
use Rattle.std.proofs.lemmas.Bool.{lt-ltb, le-ltb}
use Rattle.std.proofs.lemmas.List.{length-take-le}
use Rattle.s2_scan.specs.Inside.{HoldsWindow}
use Rattle.s2_scan.specs.Passing.{passes_at}
use Rattle.s2_scan.proofs.Held.{window_held}
use Rattle.s2_scan.proofs.NoPasses.{none_last}
use Rattle.s2_scan.proofs.windows.push_last.Goals.{then-k-via-then-k, then-k-via-else-k+then-not-may_pass}
use Rattle.s2_scan.proofs.windows.push_last.Goals as goal

pub returns-then-k : goal.returns-then-k
returns-then-k c =
    let items = c.args.passes.now.items in
    elim c.then-k.branch [
      | then-k-via-then-k w ↦ rw (lt-ltb c.args.k 89 w.if-k.true) (sym (append-nil items))
      | then-k-via-else-k+then-not-may_pass w ↦
          let big = w.may_pass.ensures.big w.if-not-may_pass.true in
          let little = w.may_pass.ensures.little w.if-not-may_pass.true in
          let none = none_last (c.args.first + (c.args.k - 89)) c.args.bytes.now c.args.k c.args.orders.big.odd c.args.orders.big.even c.args.orders.little.odd c.args.orders.little.even w.if-k.false c.requires.big c.requires.little big little in
          rw (le-ltb c.args.k 89 w.if-k.false) (sym (append-nil items) ∙ ap (λ ps. items ++ ps) (sym none))
    ]

pub push_window-requires-clause-big : goal.push_window-requires-clause-big
push_window-requires-clause-big c =
    let place : c.args.k + 1 ≡ c.args.k - 89 + 90 = omega arith in
    subst (λ (w : List ℕ). HoldsWindow false w c.args.orders.big.odd c.args.orders.big.even) (sym c.window_at-window.ensures)
    (window_held false c.args.bytes.now (c.args.k + 1) (c.args.k - 89) c.args.orders.big.odd c.args.orders.big.even c.requires.big place)

pub push_window-requires-clause-little : goal.push_window-requires-clause-little
push_window-requires-clause-little c =
    let place : c.args.k + 1 ≡ c.args.k - 89 + 90 = omega arith in
    subst (λ (w : List ℕ). HoldsWindow true w c.args.orders.little.odd c.args.orders.little.even) (sym c.window_at-window.ensures)
    (window_held true c.args.bytes.now (c.args.k + 1) (c.args.k - 89) c.args.orders.little.odd c.args.orders.little.even c.requires.little place)

pub push_window-requires-clause-window : goal.push_window-requires-clause-window
push_window-requires-clause-window c =
    let bytes = c.args.bytes.now in
    let at = c.args.k - 89 in
    let rest : 360 ≤ length (drop (4 * at) bytes) = omega (arith, length-drop (4 * at) bytes) in
    ap length c.window_at-window.ensures ∙ length-take-le 360 (drop (4 * at) bytes) rest

pub returns : goal.returns
returns c =
    let place = c.args.first + (c.args.k - 89) in
    rw (le-ltb c.args.k 89 c.if-k.false)
    (subst (λ (w : List ℕ). OnOk c.push_window.result (c.push_window.new.passes.items ≡ c.args.passes.now.items ++ passes_at place w)) c.window_at-window.ensures c.push_window.ensures)
