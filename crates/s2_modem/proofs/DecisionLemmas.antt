-- What a decider finds is what is decided of a frame.
use Rattle.s2_modem.proofs.Names.{◌≡◌, ℕ, ◌≤◌, Bool, false, List, take, Option, None, ap, ◌∙◌, arith, ℤ, replicate, pos, take-replicate, Mode, HasCodeSizes, k_of, kbch_of, n_of, shape_in, code_bits, Symbol, Rows, code_of, View, Link, Answer, Verdict, decided, rounds_run, Tuning, frame_soft, frame_decision, decision_of, decision_with, options_of, IsUndecided, decision_held}

pub message_fits : (m : Mode) → HasCodeSizes m → kbch_of m ≤ k_of m
message_fits m sizes = grind (arith, sizes.short_code, sizes.normal_code)

-- as many bits as the mode's codewords have
pub code_is : (m : Mode) (rows : Rows) → HasCodeSizes m → rows.shape ≡ shape_in m → (code_of rows).bits ≡ n_of m
code_is m rows sizes shape = ap code_bits shape ∙ omega (arith, sizes.groups, sizes.checks)

-- before a frame came all are zeros
pub undecided : (m : Mode) (rows : Rows) (soft : List ℤ) (bits word : List Bool) (certificate : Option View) (d : Answer) (field : List ℕ) → HasCodeSizes m → rows.shape ≡ shape_in m
    → soft ≡ replicate (code_of rows).bits (pos 0) → bits ≡ replicate (code_of rows).bits false → certificate ≡ None → word ≡ replicate (k_of m) false
    → IsUndecided m (decision_held m soft bits certificate word d field)
undecided m rows soft bits word certificate d field sizes shape soft_is bits_are none word_is =
    let long = code_is m rows sizes shape in
    record {
      soft = soft_is ∙ ap (λ n. replicate n (pos 0)) long;
      bits = bits_are ∙ ap (λ n. replicate n false) long;
      certificate = none;
      message = ap (take (kbch_of m)) word_is ∙ take-replicate (kbch_of m) (k_of m) false (message_fits m sizes);
    }

-- what a frame reader makes of the bits that are decided is what is decided of the frame
pub frame_decided : (link : Link) (tuning : Tuning) (symbols : List Symbol) (held soft : List ℤ) (verdict : Verdict) (bits : List Bool) (certificate : Option View) (rounds : ℕ)
    → held ≡ soft → soft ≡ frame_soft link tuning symbols → verdict ≡ (decided link.rows tuning soft).verdict → bits ≡ (decided link.rows tuning soft).bits → certificate ≡ (decided link.rows tuning soft).certificate
    → rounds ≡ rounds_run link.rows tuning soft → decision_with link.setup.mode link.setup.number (options_of tuning) symbols held verdict bits certificate rounds ≡ frame_decision link tuning symbols
unfolding frame_decision
frame_decided link tuning symbols held soft verdict bits certificate rounds held_is soft_is verdict_is bits_are certificate_is rounds_are =
    (λ i. decision_with link.setup.mode link.setup.number (options_of tuning) symbols (held_is i) (verdict_is i) (bits_are i) (certificate_is i) (rounds_are i))
    ∙ ap (λ s. decision_of link tuning symbols s (decided link.rows tuning s)) soft_is
