-- The figures of a frame without noise: nothing is wrong.
use Rattle.s2_modem.proofs.Names.{◌≡◌, ℕ, zero, suc, ◌+◌, ◌*◌, ◌%◌, ◌==◌, ◌<◌, Bool, true, false, cond, List, [], ◌∷◌, length, take, map, range_with_len, Some, None, refl, sym, ap, ap₂, subst, ◌∙◌, arith, ints, ℤ, pos, neg_ℤ, length-take, length-map-range_with_len, get_or-map-range_with_len, ext_get_or, sum_by-cons, Mode, IsMode, HasCodeSizes, n_of, symbols_in, Symbol, symbol, symbol_at, symbols_least, decision, differences, IsCodeword, code_of, hard_decision, header_bit, header_symbol, frame_symbol, frame_symbols, payload_of, IsDivisor, Link, Tuning, IsLinkOf, Decided, decided, rounds_run, clean_lem, codeword_satisfied, rounds_hard, Figures, squared_distance, error_at, known_places, payload_places, sent_frame, figures_of, symbol_energy, energy_of, header_errors, frame_soft, frame_decision, sent_symbols, clean_energy, clean_figures, clean_figures_by, clean_removed, decided_symbols, upright_symbols, Removed, removed_if, removed_frame, options_of, sent_removed, IsModerate, Option, if◌then◌else◌, received_payload, soft_values}
use Rattle.std.specs.Prelude.{negsuc, ◌+ℤ◌, ◌-ℤ◌, ◌*ℤ◌, unsigned_abs}
use lib.IntN.{pos-*ℤ-pos, negsuc-*ℤ-negsuc, *ℤ_comm}
use Rattle.std.specs.List.{sum_by}
use Rattle.s2_message.specs.Correlation.{correlation, correlation_over, plus}
use Rattle.s2_modem.specs.Front.{clean_correlation}
use Rattle.s2_plframe.specs.Search.{mismatches}
use Rattle.s2_plframe.specs.Header.{header_of}
use Rattle.s2_plframe.proofs.HeaderFacts.{header_at, header_no_mismatch}
use Rattle.s2_modem.proofs.DecisionLemmas.{code_is}
use Rattle.s2_modem.proofs.Moderate.{payload_moderate}
use Rattle.s2_modem.proofs.CleanFrames.{received, differences_none, is_mode, has_sizes, sent_straight, sent_upright, sent_unturned}

-- ---- distances

no_distance : (s : Symbol) → squared_distance s s ≡ 0
no_distance s =
    let i : s.i -ℤ s.i ≡ pos 0 = omega (arith, ints) in
    let q : s.q -ℤ s.q ≡ pos 0 = omega (arith, ints) in
    ap₂ (λ (a : ℤ) (b : ℤ). unsigned_abs a * unsigned_abs a + unsigned_abs b * unsigned_abs b) i q

none_over : (symbols : List Symbol) (places : List ℕ) → sum_by (error_at symbols symbols) places ≡ 0
none_over symbols [] = refl
none_over symbols (k ∷ ks) =
    sum_by-cons (error_at symbols symbols) k ks ∙ ap₂ (λ (a : ℕ) (b : ℕ). a + b) (no_distance (symbol_at symbols k)) (none_over symbols ks)

-- ---- correlations

square : (a : ℤ) → a *ℤ a ≡ pos (unsigned_abs a * unsigned_abs a)
square (pos n) = pos-*ℤ-pos n n
square (negsuc n) = negsuc-*ℤ-negsuc n n

with_itself : (s : Symbol) → correlation s s ≡ record { power = symbol_energy s; along = pos (symbol_energy s); across = pos 0 }
with_itself s =
    let along = ap₂ (λ (a : ℤ) (b : ℤ). a +ℤ b) (square s.i) (square s.q) in
    let across : s.q *ℤ s.i -ℤ s.i *ℤ s.q ≡ pos 0 = omega (arith, ints, *ℤ_comm s.q s.i) in
    λ t. record { power = symbol_energy s; along = along t; across = across t }

clean_over : (sent : List Symbol) (places : List ℕ) → correlation_over places sent sent ≡ clean_correlation places sent
clean_over sent [] = refl
clean_over sent (k ∷ ks) =
    let sum = sym (sum_by-cons (λ i. symbol_energy (symbol_at sent i)) k ks) in
    ap₂ plus (with_itself (symbol_at sent k)) (clean_over sent ks) ∙ (λ t. record { power = sum t; along = pos (sum t); across = pos 0 })

-- ---- the header

header_again : (m : Mode) (number : ℕ) (payload : List Symbol) → IsMode m → take 90 (frame_symbols m number payload) ≡ header_of m
header_again m number payload is =
    let none = symbol (pos 0) (pos 0) in
    let frame = frame_symbols m number payload in
    let whole : length frame ≡ symbols_in m = length-map-range_with_len (frame_symbol m number payload) 0 (symbols_in m) in
    let part : length (take 90 frame) ≡ 90 = omega (arith, length-take 90 frame, whole, symbols_least m) in
    let long : length (header_of m) ≡ 90 = length-map-range_with_len (header_symbol m) 0 90 in
    ext_get_or none (take 90 frame) (header_of m) (part ∙ sym long) (λ k low. (
    let inside : k < 90 = omega (arith, part) in
    let here : 0 + k ≡ k = omega arith in
    header_at m number payload k is inside ∙ sym (get_or-map-range_with_len (header_symbol m) 0 90 k k none inside here)))

no_errors : (m : Mode) (number : ℕ) (payload : List Symbol) → IsMode m → header_errors m (frame_symbols m number payload) ≡ 0
unfolding header_errors
no_errors m number payload is = ap (λ (l : List Symbol). mismatches (header_bit m) (map decision l) 90) (header_again m number payload is) ∙ header_no_mismatch m

point_energy : (odd bit : Bool) → symbol_energy (cond odd (cond bit (symbol (neg_ℤ (pos 700)) (neg_ℤ (pos 700))) (symbol (pos 700) (pos 700))) (cond bit (symbol (pos 700) (neg_ℤ (pos 700))) (symbol (neg_ℤ (pos 700)) (pos 700)))) ≡ 980000
point_energy true true = refl
point_energy true false = refl
point_energy false true = refl
point_energy false false = refl

same_energies : (f : ℕ → Symbol) (a n : ℕ) → ((k : ℕ) → symbol_energy (f k) ≡ 980000) → sum_by symbol_energy (map f (range_with_len a n)) ≡ 980000 * n
same_energies f a zero all = refl
same_energies f a (suc n) all =
    sum_by-cons symbol_energy (f a) (map f (range_with_len (a + 1) n)) ∙ ap₂ (λ (x : ℕ) (y : ℕ). x + y) (all a) (same_energies f (a + 1) n all) ∙ omega arith

header_energy : (m : Mode) (number : ℕ) (payload : List Symbol) → IsMode m → energy_of (take 90 (frame_symbols m number payload)) ≡ clean_energy
unfolding energy_of
header_energy m number payload is =
    ap (sum_by symbol_energy) (header_again m number payload is) ∙ same_energies (header_symbol m) 0 90 (λ k. point_energy (k % 2 == 0) (header_bit m k))

-- ---- the frame

all_clean : (m : Mode) (number : ℕ) (soft : List ℤ) (word : List Bool) → (equalize : Bool) → (removed : Option Removed) → removed ≡ (if equalize then Some clean_removed else None) → IsMode m → hard_decision soft ≡ word → figures_of m number (sent_frame m number word) removed soft word 0 ≡ clean_figures equalize m number word
unfolding figures_of
all_clean m number soft word equalize removed taken is hard =
    let none : differences (n_of m) (hard_decision soft) word ≡ 0 = ap (λ (w : List Bool). differences (n_of m) w word) hard ∙ differences_none (n_of m) word in
    let sent = sent_frame m number word in
    λ i. record {
      header = no_errors m number (payload_of m word) is i;
      rounds = 0;
      changed = record { sum = none i; of = n_of m };
      known = record { sum = none_over sent (known_places m) i; of = length (known_places m) };
      payload = record { sum = none_over sent (payload_places m) i; of = length (payload_places m) };
      known_correlation = clean_over sent (known_places m) i;
      payload_correlation = clean_over sent (payload_places m) i;
      removed = taken i;
    }

-- what is taken out of a frame as it was sent
sent_taken : (m : Mode) (number : ℕ) (equalize : Bool) (payload : List Symbol) → IsMode m → ((k : ℕ) → IsModerate 1 (symbol_at payload k))
    → removed_if m number equalize (frame_symbols m number payload) ≡ (if equalize then Some clean_removed else None)
sent_taken m number true payload is each = ap Some (sent_removed m number payload is each)
sent_taken m number false payload is each = refl

-- the figures of a codeword's frame without noise, if they are wanted, its header's energy, and its turn
pub clean_measures : (m : Mode) → IsMode m → HasCodeSizes m → (link : Link) → IsLinkOf m link → (tuning : Tuning) → IsDivisor tuning.divisor → (codeword : List Bool) → IsCodeword (code_of link.rows) codeword
    → ((frame_decision link tuning (sent_symbols link codeword)).figures ≡ clean_figures_by tuning link.setup.mode link.setup.number codeword) × ((frame_decision link tuning (sent_symbols link codeword)).energy ≡ clean_energy)
    × ((frame_decision link tuning (sent_symbols link codeword)).turn ≡ 0)
unfolding frame_decision
clean_measures m valid sizes link linked tuning known codeword in_code =
    let mode = link.setup.mode in
    let number = link.setup.number in
    let is = is_mode m valid sizes link linked in
    let symbols = sent_symbols link codeword in
    let soft = frame_soft link tuning symbols in
    let heard = received tuning.divisor mode number codeword known is (in_code.long ∙ code_is mode link.rows (has_sizes m valid sizes link linked) linked.1) in
    let upright : decided_symbols link tuning symbols ≡ symbols = sent_upright m valid sizes link linked tuning codeword in
    let same : soft ≡ soft_values tuning.divisor mode (received_payload mode number symbols) = ap (λ (l : List Symbol). soft_values tuning.divisor mode (received_payload mode number l)) upright in
    let hard : hard_decision soft ≡ codeword = ap hard_decision same ∙ heard.soft.decided in
    let word = subst (IsCodeword (code_of link.rows)) (sym hard) in_code in
    let sure = clean_lem link.rows tuning soft word in
    let bits : (decided link.rows tuning soft).bits ≡ codeword = ap (λ (d : Decided). d.bits) sure.0 ∙ hard in
    let rounds : rounds_run link.rows tuning soft ≡ 0 = rounds_hard link.rows tuning soft (codeword_satisfied (code_of link.rows) (hard_decision soft) word) in
    let straight : upright_symbols link tuning symbols ≡ symbols = sent_straight m valid sizes link linked tuning codeword in
    let taken : removed_frame mode number (options_of tuning) symbols ≡ (if tuning.equalize then Some clean_removed else None) =
    ap (removed_if mode number tuning.equalize) straight ∙ sent_taken mode number tuning.equalize (payload_of mode codeword) is (payload_moderate mode codeword) in
    let figures : figures_of mode number (decided_symbols link tuning symbols) (removed_frame mode number (options_of tuning) symbols) soft (decided link.rows tuning soft).bits (rounds_run link.rows tuning soft) ≡ clean_figures tuning.equalize mode number codeword =
    (λ i. figures_of mode number (upright i) (removed_frame mode number (options_of tuning) symbols) soft (bits i) (rounds i)) ∙ all_clean mode number soft codeword tuning.equalize _ taken is hard in
    (ap (λ (f : Figures). cond tuning.figures (Some f) None) figures, header_energy mode number (payload_of mode codeword) is, sent_unturned m valid sizes link linked tuning codeword)
