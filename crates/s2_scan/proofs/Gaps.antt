-- Candidates, one after the other.
use Rattle.std.proofs.Common.{◌≡◌, ℕ, ◌+◌, ◌<◌, ◌≤◌, Bool, true, List, length, get_or, drop, Option, ap, sym, ◌∙◌}
use Rattle.std.specs.Prelude.{codes, if◌then◌else◌}
use Rattle.std.proofs.lemmas.List.{drop_all, drop_more}
use Rattle.s2_scan.specs.Lines.{advice_of, command_line, is_received}
use Rattle.s2_scan.specs.declared.passes.Pass.{Pass}
use Rattle.s2_scan.specs.declared.candidate.Candidate.{Candidate}

-- no pass
abbrev pub no_pass : Pass
no_pass = record { position = 0; form = 0; header = 0; energy = 0 }

-- no candidate
abbrev pub no_candidate : Candidate
no_candidate = record { form = 0; header = 0; seen = 0; pairs = 0; first = 0; every = 0; amplitude = 0 }

-- the first one that is received
pub received_here : (name : List ℕ) (number : Option ℕ) (ss : List Candidate) (k : ℕ) → k < length ss → is_received (get_or ss k no_candidate).header ≡ true → advice_of name number (drop k ss) ≡ advice_of name number ss
    → command_line name number (get_or ss k no_candidate) ≡ advice_of name number ss
received_here name number ss k lt is rest =
    let s = get_or ss k no_candidate in
    sym (ap (advice_of name number) (drop_more ss k no_candidate lt) ∙ ap (λ (b : Bool). if b then command_line name number s else advice_of name number (drop (k + 1) ss)) is) ∙ rest

-- none is
pub received_none : (name : List ℕ) (number : Option ℕ) (ss : List Candidate) (k : ℕ) → length ss ≤ k → advice_of name number (drop k ss) ≡ advice_of name number ss → codes "s2 demod receives none of these\n" ≡ advice_of name number ss
received_none name number ss k past rest = sym (ap (advice_of name number) (drop_all k ss past)) ∙ rest
