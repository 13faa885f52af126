-- A frame without noise is delivered, certified, with nothing changed.
use Rattle.s2_modem.proofs.Names.{ap₂, xor_same, number, or_right, ◌≡◌, ℕ, zero, suc, ◌+◌, ◌-◌, ◌*◌, ◌/◌, ◌%◌, ◌<◌, ◌≤◌, Bool, true, false, List, [], ◌∷◌, ◌++◌, length, take, drop, map, get_or, Option, Some, None, Result, Ok, Err, refl, sym, ap, subst, ◌∙◌, arith, length-append, length-take, length-take-le, length-drop, ℤ, pos, int_lt, le-leb, eq-eqb, length-map, ext_get_or, get_or-take, get_or-drop, take_at, drop_at, take_all, fill_by_all, length-map-range_with_len, All-head, All-tail, All-append, All-from_recursion, Mode, IsMode, HasCodeSizes, k_of, kbch_of, n_of, t_of, slots_of, symbols_in, Symbol, symbols_least, Rows, bit_at, bits_of_byte, bits_of_bytes, byte_at, byte_of, bytes_from, differences, byte_back, code_of, IsCodeword, hard_decision, NoneIsZero, is_certified, IsSole, HeaderFault, Decision, header_bytes, has_valid_lengths, header_of_bytes, signalling, header_at, to_place, field_bytes, header_of_bytes-header_bytes, divided, scrambled, scrambled-scrambled, IsWithin, nearest, within_is_nearest, nearest_is_within, no_nearest, payload_symbol, payload_of, frame_symbol, frame_symbols, found, clean_behind, IsDivisor, soft_bit, soft_values, DecidesTo, clean_says, payload_again, clean_passes, IsCleanFrame, IsReceived, Link, padded_bits, baseband_frame, IsCodewordFor, found_as, Decided, decided, IsShown, Tuning, frame_soft, received_word, message_of, header_in, field_in, outcome_by, delivered_by, decision_by, frame_decision, AllAsLikely, TrueReports, IsCertifiedBy, IsCorrected, IsSaidBy, link_rules, IsLinkOf, IsByte, AreBytes, sent_symbols, IsDelivered, IsDeliveredCertified, ReceivesAllLaw, ScatteredFrameLaw, BothCodesLaw, IsSent, IsMostLikely, received_payload, Sole, clean_lem, certified_lem, likely_lem, sole_lem, scattered_lem, decided_long, length-baseband_frame, length-bch_word, symbol, Header, count_of, cond, is_delivered, Figures, Outcome, Delivered, NoWord, BadHeader, figures_by, measured, energy_of, decided_symbols, upright_symbols, equalized, sent_back, frame_turn, sought_by, CameWithoutNoise, rotated, inl, inr, IsTurnedFrame, turned_frame_is, straight_is, frame_rotates, sought_of, derotated, turn_of, found_behind, map-id, AllRotateBack, if◌then◌else◌}
use Rattle.s2_modem.proofs.Names.founds
use Rattle.s2_modem.proofs.DecisionLemmas.{code_is, message_fits}
use Rattle.s2_modem.proofs.Dummies.{dummy_is}
use Rattle.s2_modem.proofs.Moderate.{payload_moderate}
use Rattle.s2_modem.proofs.SymbolsBack.{payload_back}

-- ---- from the mapper to the soft values

pub received : (divisor : ℕ) (m : Mode) (number : ℕ) (word : List Bool) → IsDivisor divisor → IsMode m → length word ≡ n_of m → IsCleanFrame divisor m number word
received divisor m number word known is long =
    let sized : length (payload_of m word) ≡ 90 * slots_of m = length-map-range_with_len (payload_symbol m word) 0 (90 * slots_of m) in
    let again : received_payload m number (frame_symbols m number (payload_of m word)) ≡ payload_of m word = payload_again m number (payload_of m word) is sized (λ s lt. payload_back m word s (symbol (pos 0) (pos 0)) lt) in
    record {
      header = clean_passes m number (payload_of m word) is;
      soft = subst (λ p. DecidesTo (soft_values divisor m p) word) (sym again) (clean_says divisor known m word is long);
    }

-- ---- bytes out of their bits

byte_of_same : (f g : ℕ → Bool) → ((k : ℕ) → f k ≡ g k) → byte_of f ≡ byte_of g
byte_of_same f g h = rw (h 0, h 1, h 2, h 3, h 4, h 5, h 6, h 7)

spelt_byte : (bytes : List ℕ) (rest : List Bool) (i : ℕ) → AreBytes bytes → i < length bytes → byte_at (bits_of_bytes bytes ++ rest) (8 * i) ≡ get_or bytes i 0
unfolding bits_of_byte
spelt_byte [] rest i h low = absurd (omega arith)
spelt_byte (b ∷ bs) rest zero h low = byte_back b (All-head IsByte b bs h)
spelt_byte (b ∷ bs) rest (suc i) h low =
    let all = bits_of_bytes (b ∷ bs) ++ rest in
    byte_of_same (λ k. bit_at all (8 * suc i + k)) (λ k. bit_at (bits_of_bytes bs ++ rest) (8 * i + k))
    (λ k. let e : 8 * suc i + k ≡ suc (suc (suc (suc (suc (suc (suc (suc (8 * i + k)))))))) = omega arith in ap (bit_at all) e)
    ∙ spelt_byte bs rest i (All-tail IsByte b bs h) (omega arith)

bytes_back : (bytes : List ℕ) (rest : List Bool) (first n : ℕ) → AreBytes bytes → first + n ≤ length bytes → bytes_from first n (bits_of_bytes bytes ++ rest) ≡ take n (drop first bytes)
bytes_back bytes rest first n h fits =
    let long : length (take n (drop first bytes)) ≡ n = omega (arith, length-take n (drop first bytes), length-drop first bytes) in
    sym (fill_by_all (λ i. byte_at (bits_of_bytes bytes ++ rest) (8 * (first + i))) (take n (drop first bytes)) n 0 long
    (λ k low. get_or-take n (drop first bytes) k 0 low ∙ (get_or-drop first bytes k 0 ∙ sym (spelt_byte bytes rest (first + k) h (omega arith)))))

-- ---- the header of a field

header_is_bytes : (roll_off at : ℕ) (field : List ℕ) → roll_off ≤ 2 → AreBytes (header_bytes (header_at roll_off at field))
header_is_bytes roll_off at field ro =
    All-from_recursion IsByte (header_bytes (header_at roll_off at field))
    (omega arith, (omega arith, (omega arith, (omega arith, (omega arith, (omega arith, (omega arith, (omega arith, (omega arith, ((divided (signalling (header_at roll_off at field))).0, tt))))))))))

valid_header : (m : Mode) (roll_off at : ℕ) (field : List ℕ) → HasCodeSizes m → to_place at < length field → length field ≤ field_bytes m
    → has_valid_lengths m (header_at roll_off at field) ≡ true
valid_header m roll_off at field sizes place fits =
    let whole : 8 * length field % 8 ≡ 0 = omega arith in
    let most : 8 * length field ≤ kbch_of m - 80 = omega (arith, sizes.field) in
    let step : 8 * to_place at % 8 ≡ 0 = omega arith in
    let low : 8 * to_place at < 1504 = omega arith in
    let inside : 8 * to_place at < 8 * length field = omega arith in
    rw (eq-eqb _ _ whole, le-leb _ _ most, eq-eqb _ _ step, le-leb _ _ low, le-leb _ _ inside) (or_right _ _ (or_right _ _ refl))

-- ---- decisions

pub differences_none : (n : ℕ) (a : List Bool) → differences n a a ≡ 0
differences_none zero a = refl
differences_none (suc n) a = ap₂ (λ (d : ℕ) (e : ℕ). d + e) (differences_none n a) (ap number (xor_same (bit_at a n)))

-- what is read of the word that BCH decoding finds
read_corrected : (m : Mode) (d : Decision) (word : List Bool) (h : Result Header HeaderFault) → IsWithin m (received_word m d.bits) word → d.message ≡ message_of m word
    → header_of_bytes m (header_in (scrambled d.message)) ≡ h → d.delivered ≡ delivered_by (scrambled d.message) h → IsCorrected m d (outcome_by (differences (k_of m) (received_word m d.bits) word) h)
read_corrected m d word (Ok header) near message read delivered = (word, near, message, refl, (header, read, delivered))
read_corrected m d word (Err fault) near message read delivered = (word, near, message, read, delivered)

decision_corrected : (m : Mode) → IsMode m → HasCodeSizes m → (soft : List ℤ) (d : Decided) (o : Option (List Bool)) → length (received_word m d.bits) ≡ k_of m → nearest m (received_word m d.bits) ≡ o
    → IsCorrected m (decision_by m soft d o) (decision_by m soft d o).outcome
decision_corrected m valid sizes soft d (Some word) long near =
    read_corrected m (decision_by m soft d (Some word)) word (header_of_bytes m (header_in (scrambled (message_of m word)))) (nearest_is_within m valid sizes (received_word m d.bits) long word near) refl refl refl
decision_corrected m valid sizes soft d None long near = (no_nearest m valid sizes (received_word m d.bits) long near, refl)

-- what is delivered is what the message says
corrected_said : (m : Mode) (d : Decision) (o : Outcome) → HasCodeSizes m → IsCorrected m d o → IsSaidBy m d.message d.delivered
corrected_said m d (Delivered fixed) sizes (word, near, message, is, (header, read, delivered)) =
    let long : length d.message ≡ kbch_of m = ap length message ∙ length-take-le (kbch_of m) word (omega (arith, near.word.size, message_fits m sizes)) in
    subst (IsSaidBy m d.message) (sym delivered) (long, read, refl)
corrected_said m d (BadHeader fault) sizes (word, near, message, read, none) = subst (IsSaidBy m d.message) (sym none) tt
corrected_said m d NoWord sizes (far, none) = subst (IsSaidBy m d.message) (sym none) tt

-- a decision on these soft values has what was decided on them
pub record IsOf (r : Rows) (soft : List ℤ) (d : Decided) (x : Decision) : Type 0 where
  pub soft_is : x.soft ≡ soft
  pub verdict : x.verdict ≡ d.verdict
  pub bits : x.bits ≡ d.bits
  pub certified : IsShown r soft d → IsCertifiedBy r x.verdict x

decision_is_of : (r : Rows) (m : Mode) (soft : List ℤ) (d : Decided) (o : Option (List Bool)) → IsOf r soft d (decision_by m soft d o)
decision_is_of r m soft d (Some word) = record { soft_is = refl; verdict = refl; bits = refl; certified = λ h. h }
decision_is_of r m soft d None = record { soft_is = refl; verdict = refl; bits = refl; certified = λ h. h }

-- figures, energy and turn change nothing of that
measured_is_of : (r : Rows) (soft : List ℤ) (d : Decided) (x : Decision) (figures : Option Figures) (energy turn : ℕ) → IsOf r soft d x → IsOf r soft d (measured x figures energy turn)
measured_is_of r soft d x figures energy turn is = record { soft_is = is.soft_is; verdict = is.verdict; bits = is.bits; certified = is.certified }

measured_corrected : (m : Mode) (x : Decision) (figures : Option Figures) (energy turn : ℕ) (o : Outcome) → IsCorrected m x o → IsCorrected m (measured x figures energy turn) o
measured_corrected m x figures energy turn (Delivered fixed) h = h
measured_corrected m x figures energy turn (BadHeader fault) h = h
measured_corrected m x figures energy turn NoWord h = h

measured_delivers : (x : Decision) (figures : Option Figures) (energy turn fixed : ℕ) (message : List Bool) (header : Header) (field : List ℕ) → IsDelivered x fixed message header field
    → IsDelivered (measured x figures energy turn) fixed message header field
measured_delivers x figures energy turn fixed message header field h = record { outcome = h.outcome; message_is = h.message_is; delivered = h.delivered }

pub frame_is : (link : Link) (tuning : Tuning) (symbols : List Symbol) → IsOf link.rows (frame_soft link tuning symbols) (decided link.rows tuning (frame_soft link tuning symbols)) (frame_decision link tuning symbols)
unfolding frame_decision
frame_is link tuning symbols =
    let soft = frame_soft link tuning symbols in
    let d = decided link.rows tuning soft in
    let o = nearest link.setup.mode (received_word link.setup.mode d.bits) in
    measured_is_of link.rows soft d (decision_by link.setup.mode soft d o) (figures_by link tuning symbols) (energy_of (take 90 symbols)) (frame_turn link tuning symbols) (decision_is_of link.rows link.setup.mode soft d o)

-- what is delivered is counted as its outcome says
counts_by : (fixed : ℕ) (bits : List Bool) (r : Result Header HeaderFault) → count_of (delivered_by bits r) ≡ cond (is_delivered (outcome_by fixed r)) 1 0
counts_by fixed bits (Ok header) = refl
counts_by fixed bits (Err fault) = refl

decision_counts : (m : Mode) (soft : List ℤ) (d : Decided) (o : Option (List Bool)) → count_of (decision_by m soft d o).delivered ≡ cond (is_delivered (decision_by m soft d o).outcome) 1 0
decision_counts m soft d (Some word) = counts_by _ (scrambled (message_of m word)) (header_of_bytes m (header_in (scrambled (message_of m word))))
decision_counts m soft d None = refl

pub counts : (link : Link) (tuning : Tuning) (symbols : List Symbol) → count_of (frame_decision link tuning symbols).delivered ≡ cond (is_delivered (frame_decision link tuning symbols).outcome) 1 0
unfolding frame_decision
counts link tuning symbols = decision_counts link.setup.mode (frame_soft link tuning symbols) (decided link.rows tuning (frame_soft link tuning symbols)) _

-- ---- frames of a link

module _ (m : Mode) (valid : IsMode m) (sizes : HasCodeSizes m) (link : Link) (linked : IsLinkOf m link) where
  abbrev mode : Mode
  mode = link.setup.mode

  pub is_mode : IsMode mode
  is_mode = subst IsMode (sym linked.0) valid

  pub has_sizes : HasCodeSizes mode
  has_sizes = subst HasCodeSizes (sym linked.0) sizes

  length_soft : (tuning : Tuning) (symbols : List Symbol) → length (frame_soft link tuning symbols) ≡ (code_of link.rows).bits
  length_soft tuning symbols = length-map-range_with_len (soft_bit tuning.divisor mode (received_payload mode link.setup.number (decided_symbols link tuning symbols))) 0 (n_of mode) ∙ sym (code_is mode link.rows has_sizes linked.1)

  length_received : (tuning : Tuning) (symbols : List Symbol) → length (received_word mode (decided link.rows tuning (frame_soft link tuning symbols)).bits) ≡ k_of mode
  length_received tuning symbols =
      let bits = (decided link.rows tuning (frame_soft link tuning symbols)).bits in
      let whole : length bits ≡ n_of mode = decided_long link.rows tuning (frame_soft link tuning symbols) (length_soft tuning symbols) ∙ code_is mode link.rows has_sizes linked.1 in
      omega (arith, length-take (k_of mode) bits, whole, has_sizes.checks)

  pub all_as_likely : (tuning : Tuning) → AllAsLikely link tuning
  all_as_likely tuning = λ symbols.
      let soft = frame_soft link tuning symbols in
      let f = frame_is link tuning symbols in
      let long = length_soft tuning symbols in
      record {
        likely = λ verdict. subst (IsMostLikely (code_of link.rows) soft) (sym f.bits) (likely_lem link.rows tuning soft long (sym (ap is_certified f.verdict) ∙ verdict));
        sole = λ verdict. subst (IsSole (code_of link.rows) soft) (sym f.bits) (sole_lem link.rows tuning soft long (sym f.verdict ∙ verdict));
      }

  pub true_reports : (tuning : Tuning) → TrueReports link tuning
  unfolding frame_decision
  true_reports tuning = λ symbols.
      let soft = frame_soft link tuning symbols in
      let d = decided link.rows tuning soft in
      let o = nearest mode (received_word mode d.bits) in
      let x = decision_by mode soft d o in
      let corrected = decision_corrected mode is_mode has_sizes soft d o (length_received tuning symbols) refl in
      record {
        certified = (frame_is link tuning symbols).certified (certified_lem link.rows tuning soft (length_soft tuning symbols));
        within = measured_corrected mode x (figures_by link tuning symbols) (energy_of (take 90 symbols)) (frame_turn link tuning symbols) x.outcome corrected;
        said = corrected_said mode x x.outcome has_sizes corrected;
      }

  module _ (at : ℕ) (field : List ℕ) (codeword : List Bool) (sent : IsSent m link at field codeword) where
    abbrev header : Header
    header = header_at link.setup.roll_off at field

    abbrev word : List Bool
    word = sent.codeword_is.bch_word

    abbrev message : List Bool
    message = message_of mode word

    abbrev front : List ℕ
    front = header_bytes header ++ field

    front_bytes : AreBytes front
    front_bytes = All-append IsByte (header_bytes header) field (header_is_bytes link.setup.roll_off at field sent.roll_off) sent.bytes

    long_front : length front ≡ 10 + length field
    long_front = length-append (header_bytes header) field

    long_message : length (baseband_frame mode header field) ≡ kbch_of mode
    long_message = length-baseband_frame mode header field has_sizes sent.fits

    long_word : length word ≡ k_of mode
    long_word = length-bch_word mode has_sizes (baseband_frame mode header field) word long_message sent.codeword_is.is_bch_word

    -- the message of a BCH word of a baseband frame says its header and its field
    message_back : scrambled message ≡ padded_bits (kbch_of mode) (header_bytes header) field
    message_back = ap (λ n. scrambled (take n word)) (sym long_message) ∙ (ap scrambled sent.codeword_is.is_bch_word.front ∙ scrambled-scrambled (padded_bits (kbch_of mode) (header_bytes header) field))

    header_back : header_of_bytes mode (header_in (scrambled message)) ≡ Ok header
    header_back =
        ap (λ b. header_of_bytes mode (header_in b)) message_back
        ∙ ap (header_of_bytes mode) (bytes_back front _ 0 10 front_bytes (omega (arith, long_front)) ∙ take_at (header_bytes header) field 10 refl)
        ∙ header_of_bytes-header_bytes mode header (omega (arith, sent.roll_off)) (omega (arith, has_sizes.field_most, sent.fits)) (omega arith) (valid_header mode link.setup.roll_off at field has_sizes sent.place sent.fits)

    field_back : field_in header (scrambled message) ≡ field
    field_back =
        let n : header.dfl / 8 ≡ length field = omega arith in
        ap (field_in header) message_back ∙ ap (λ x. bytes_from 10 x (padded_bits (kbch_of mode) (header_bytes header) field)) n
        ∙ bytes_back front _ 10 (length field) front_bytes (omega (arith, long_front)) ∙ ap (take (length field)) (drop_at (header_bytes header) field 10 refl) ∙ take_all (length field) field (omega arith)

    -- where the word that was sent is near enough, it is the nearest
    pub both_codes : (tuning : Tuning) (symbols : List Symbol) → differences (k_of mode) (received_word mode (frame_decision link tuning symbols).bits) word ≤ t_of mode
        → IsDelivered (frame_decision link tuning symbols) (differences (k_of mode) (received_word mode (frame_decision link tuning symbols).bits) word) message header field
    unfolding frame_decision
    both_codes tuning symbols few =
        let soft = frame_soft link tuning symbols in
        let d = decided link.rows tuning soft in
        let r = received_word mode d.bits in
        let long = length_received tuning symbols in
        let near : differences (length r) r word ≤ t_of mode =
        subst (λ n. differences n r word ≤ t_of mode) (sym long) (subst (λ b. differences (k_of mode) (received_word mode b) word ≤ t_of mode) (frame_is link tuning symbols).bits few) in
        let nearest_is = within_is_nearest mode is_mode has_sizes r long word (record { word = record { size = long_word; multiple = sent.codeword_is.is_bch_word.multiple }; near = near }) in
        let x = decision_by mode soft d (nearest mode r) in
        let fixed = differences (k_of mode) (received_word mode x.bits) word in
        let given : IsDelivered x fixed message header field =
        subst (λ o. IsDelivered (decision_by mode soft d o) (differences (k_of mode) (received_word mode (decision_by mode soft d o).bits) word) message header field) (sym nearest_is) (record {
          outcome = ap (outcome_by (differences (k_of mode) r word)) header_back;
          message_is = refl;
          delivered = ap (delivered_by (scrambled message)) header_back ∙ ap (λ f. Some (header, f)) field_back;
        }) in
        measured_delivers x (figures_by link tuning symbols) (energy_of (take 90 symbols)) (frame_turn link tuning symbols) fixed message header field given

    -- and where the codeword that was sent was decided, it differs nowhere
    pub differs_nowhere : (bits : List Bool) → bits ≡ codeword → differences (k_of mode) (received_word mode bits) word ≡ 0
    differs_nowhere bits is =
        let k = k_of mode in
        let whole : length codeword ≡ n_of mode = sent.codeword_is.is_codeword.in_code.long ∙ code_is mode link.rows has_sizes linked.1 in
        let part : length (take k codeword) ≡ k = omega (arith, length-take k codeword, whole, has_sizes.checks) in
        let first : received_word mode codeword ≡ word =
        ext_get_or false (take k codeword) word (part ∙ sym long_word) (λ i low. get_or-take k codeword i false (omega arith) ∙ sent.codeword_is.is_codeword.begins i (omega (arith, long_word))) in
        ap (λ r. differences k r word) (ap (received_word mode) is ∙ first) ∙ differences_none k word

    codeword_delivers : (tuning : Tuning) (symbols : List Symbol) → (frame_decision link tuning symbols).bits ≡ codeword → IsDelivered (frame_decision link tuning symbols) 0 message header field
    codeword_delivers tuning symbols bits =
        let none = differs_nowhere (frame_decision link tuning symbols).bits bits in
        subst (λ n. IsDelivered (frame_decision link tuning symbols) n message header field) none (both_codes tuning symbols (omega (arith, none)))

  module _ (tuning : Tuning) where
    -- what came without noise is found, and rotated back it is what was sent
    pub record Came (codeword : List Bool) (symbols : List Symbol) : Type 0 where
      pub long : length symbols ≡ symbols_in mode
      pub finds : (behind : Bool) → found_as (sought_by link tuning) tuning.max_header_errors behind (take 90 symbols) ≡ founds.Coded
      pub straight : upright_symbols link tuning symbols ≡ sent_symbols link codeword
      pub upright : decided_symbols link tuning symbols ≡ sent_symbols link codeword

    abbrev scrambling : ℕ
    scrambling = link.setup.number

    length_sent : (codeword : List Bool) → length (sent_symbols link codeword) ≡ symbols_in mode
    length_sent codeword = length-map-range_with_len (frame_symbol mode scrambling (payload_of mode codeword)) 0 (symbols_in mode)

    -- as sent, in a search in one rotation
    straight_found : (codeword : List Bool) (lock : ℕ) (behind : Bool) → found_as (sought_of mode false) lock behind (take 90 (sent_symbols link codeword)) ≡ founds.Coded
    unfolding found_as
    straight_found codeword lock true = ap (found_behind mode lock) (straight_is (take 90 (sent_symbols link codeword))) ∙ clean_behind mode lock scrambling (payload_of mode codeword) is_mode
    straight_found codeword lock false = ap (found mode) (straight_is (take 90 (sent_symbols link codeword))) ∙ clean_passes mode scrambling (payload_of mode codeword) is_mode

    -- rotated, in a search in all rotations
    turned_found : (t lock : ℕ) (sent came : List Symbol) (behind : Bool) → IsTurnedFrame mode t sent came → found_as (sought_of mode true) lock behind (take 90 came) ≡ founds.Coded
    unfolding found_as
    turned_found t lock sent came true is = is.behind_is lock
    turned_found t lock sent came false is = is.found_is

    pub sent_rotates : (codeword : List Bool) → AllRotateBack (sent_symbols link codeword)
    sent_rotates codeword = frame_rotates mode scrambling (payload_of mode codeword) (λ s lt. payload_back mode codeword s (symbol (pos 0) (pos 0)) lt)

    -- the equalizer changes nothing of a frame that was turned back
    levelled : (codeword : List Bool) (symbols : List Symbol) → upright_symbols link tuning symbols ≡ sent_symbols link codeword → decided_symbols link tuning symbols ≡ sent_symbols link codeword
    levelled codeword symbols straight = by tuning.equalize
      where
        by : (wanted : Bool) → cond wanted (equalized mode scrambling (upright_symbols link tuning symbols)) (upright_symbols link tuning symbols) ≡ sent_symbols link codeword
        by true = ap (equalized mode scrambling) straight ∙ sent_back mode scrambling (payload_of mode codeword) is_mode (payload_moderate mode codeword)
        by false = straight

    came_turned : (codeword : List Bool) (symbols : List Symbol) (t : ℕ) → t < 4 → tuning.turns ≡ true → symbols ≡ map (rotated t) (sent_symbols link codeword) → Came codeword symbols
    came_turned codeword symbols t lt turns is =
        let sent = sent_symbols link codeword in
        let frame = turned_frame_is mode scrambling t (payload_of mode codeword) is_mode lt in
        let straight = (λ i. if turns i then derotated mode (is i) else is i) ∙ frame.back (sent_rotates codeword) in
        record {
          long = ap length is ∙ length-map sent (rotated t) ∙ length_sent codeword;
          finds = λ behind. (λ i. found_as (sought_of mode (turns i)) tuning.max_header_errors behind (take 90 (is i))) ∙ turned_found t tuning.max_header_errors sent (map (rotated t) sent) behind frame;
          straight = straight;
          upright = levelled codeword symbols straight;
        }

    came_straight : (codeword : List Bool) (symbols : List Symbol) (turns : Bool) → tuning.turns ≡ turns → symbols ≡ sent_symbols link codeword → Came codeword symbols
    came_straight codeword symbols true turns is = came_turned codeword symbols 0 (omega arith) turns (is ∙ sym (map-id (sent_symbols link codeword)))
    came_straight codeword symbols false turns is = record {
      long = ap length is ∙ length_sent codeword;
      finds = λ behind. (λ i. found_as (sought_of mode (turns i)) tuning.max_header_errors behind (take 90 (is i))) ∙ straight_found codeword tuning.max_header_errors behind;
      straight = (λ i. if turns i then derotated mode (is i) else is i);
      upright = levelled codeword symbols (λ i. if turns i then derotated mode (is i) else is i);
    }

    pub came : (codeword : List Bool) (symbols : List Symbol) → CameWithoutNoise link tuning codeword symbols → Came codeword symbols
    came codeword symbols (inl is) = came_straight codeword symbols tuning.turns refl is
    came codeword symbols (inr (turns, (t, lt, is))) = came_turned codeword symbols t lt turns is

    pub sent_upright : (codeword : List Bool) → decided_symbols link tuning (sent_symbols link codeword) ≡ sent_symbols link codeword
    sent_upright codeword = (came_straight codeword (sent_symbols link codeword) tuning.turns refl refl).upright

    pub sent_straight : (codeword : List Bool) → upright_symbols link tuning (sent_symbols link codeword) ≡ sent_symbols link codeword
    sent_straight codeword = (came_straight codeword (sent_symbols link codeword) tuning.turns refl refl).straight

    -- as sent, it arrived rotated by none
    pub sent_unturned : (codeword : List Bool) → frame_turn link tuning (sent_symbols link codeword) ≡ 0
    sent_unturned codeword = by tuning.turns
      where
        by : (turns : Bool) → (if turns then turn_of mode (sent_symbols link codeword) else 0) ≡ 0
        by true = ap (turn_of mode) (sym (map-id (sent_symbols link codeword))) ∙ (turned_frame_is mode scrambling 0 (payload_of mode codeword) is_mode (omega arith)).turn_is
        by false = refl

  module _ (ro : link.setup.roll_off ≤ 2) (tuning : Tuning) (known : IsDivisor tuning.divisor) (limit : ℕ) where
    pub hears_frame : (at : ℕ) (field : List ℕ) (codeword : List Bool) (symbols : List Symbol) → AreBytes field → to_place at < length field → length field ≤ field_bytes mode
        → (is : IsCodewordFor mode link.rows (header_at link.setup.roll_off at field) field codeword) → CameWithoutNoise link tuning codeword symbols
        → ((behind : Bool) → IsReceived (link_rules link tuning limit) behind (header_at link.setup.roll_off at field) field symbols)
        × IsDeliveredCertified (frame_decision link tuning symbols) codeword (message_of mode is.bch_word) (header_at link.setup.roll_off at field) field
        × ((frame_decision link tuning symbols).verdict ≡ Sole)
    hears_frame at field codeword symbols bytes place fits c without =
        let number = link.setup.number in
        let here = came tuning codeword symbols without in
        let soft = frame_soft link tuning symbols in
        let clean = soft_values tuning.divisor mode (received_payload mode number (sent_symbols link codeword)) in
        let same : soft ≡ clean = ap (λ (l : List Symbol). soft_values tuning.divisor mode (received_payload mode number l)) here.upright in
        let heard = received tuning.divisor mode number codeword known is_mode (c.is_codeword.in_code.long ∙ code_is mode link.rows has_sizes linked.1) in
        let hard : hard_decision soft ≡ codeword = ap hard_decision same ∙ heard.soft.decided in
        let sure = clean_lem link.rows tuning soft (subst (IsCodeword (code_of link.rows)) (sym hard) c.is_codeword.in_code) in
        let f = frame_is link tuning symbols in
        let bits = f.bits ∙ ap (λ d. d.bits) sure.0 ∙ hard in
        let given = codeword_delivers at field codeword (record { linked = linked; roll_off = ro; bytes = bytes; place = place; fits = fits; codeword_is = c }) tuning symbols bits in
        let some_clean : NoneIsZero clean = λ i low. heard.soft.some i (omega (arith, low, ap length heard.soft.decided, length-map clean (λ v. int_lt v (pos 0)))) in
        let some : NoneIsZero soft = subst NoneIsZero (sym same) some_clean in
        let verdict = f.verdict ∙ sure.1.1 some in (
          λ behind. (here.long, here.finds behind, given.delivered),
          record { verdict = ap is_certified verdict; bits = bits; delivered = given },
          verdict,
        )

-- ---- the laws

module _ (m : Mode) (valid : IsMode m) (sizes : HasCodeSizes m) where
  pub receives_all_law : ReceivesAllLaw m
  receives_all_law link tuning limit linked ro known = record {
    size = refl;
    least = symbols_least link.setup.mode;
    field_least = omega (arith, (has_sizes m valid sizes link linked).field_least);
    dummies = dummy_is link.setup.mode tuning.turns tuning.max_header_errors link.setup.number (is_mode m valid sizes link linked);
    frames = λ at field codeword bytes place fits is. hears_frame m valid sizes link linked ro tuning known limit at field codeword (sent_symbols link codeword) bytes place fits is (inl refl);
  }

  pub scattered_law : ScatteredFrameLaw m
  scattered_law link tuning symbols at field codeword sent scattered =
      let f = frame_is link tuning symbols in
      let sure = scattered_lem link.rows tuning (frame_soft link tuning symbols) codeword scattered in
      let bits = f.bits ∙ sure.1 in
      record { verdict = ap is_certified f.verdict ∙ sure.0; bits = bits; delivered = codeword_delivers m valid sizes link sent.linked at field codeword sent tuning symbols bits }

  pub both_codes_law : BothCodesLaw m
  both_codes_law link tuning symbols at field codeword sent few = both_codes m valid sizes link sent.linked at field codeword sent tuning symbols few
