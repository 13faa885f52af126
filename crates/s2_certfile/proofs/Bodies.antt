-- The parts of a body.
use Rattle.std.proofs.Common.{◌≡◌, ℕ, ◌+◌, ◌*◌, ◌/◌, ◌<◌, leb, Bool, true, false, List, map, length, get_or, take, drop, Ok, ℤ, sym, ap, ap₂, ◌∙◌, arith, le-leb}
use Rattle.std.proofs.lemmas.List.{same_lists, get_or-map, get_or_default}
use Rattle.std.proofs.lemmas.List.FromFn.{length-range_with_len, get_or-range_with_len}
use Rattle.s2_mode.specs.Shape.{code_bits}
use Rattle.s2_bits.specs.Bits.{bit_at, bit_of_bytes}
use Rattle.s2_certfile.specs.declared.header.FileHeader.{FileHeader}
use Rattle.s2_certfile.specs.File.{Split}
use Rattle.s2_certfile.specs.declared.fault.CertFault.TheVariants as faults
use Rattle.s2_certfile.specs.Field.{many, bit_list, places}
use Rattle.s2_certfile.specs.Format.{demand, soft, split, body, body_at, file_of}
use Rattle.s2_certfile.proofs.EntryLemmas.{length-listed}

-- a list by its length and its places
pub listed : (f : ℕ → Bool) (n : ℕ) (bits : List Bool) → length bits ≡ n → ((k : ℕ) → k < n → bit_at bits k ≡ f k) → bits ≡ map f (places n)
listed f n bits long at =
    same_lists bits (map f (places n)) (long ∙ sym (length-listed f n)) (λ k d h. (
    let short : k < n = omega arith in
    let within : k < length (places n) = omega (arith, length-range_with_len 0 n) in
    let place : k ≡ get_or (places n) k 0 = omega (arith, get_or-range_with_len 0 n k 0 short) in
    get_or_default bits k d false h ∙ at k short ∙ ap f place ∙ sym (get_or-map f (places n) k 0 d within)
    ))

pub parts_are : (h : FileHeader) (bytes : List ℕ) (n : ℕ) (front rest : List ℕ) (x : List ℤ) (b : List Bool) (s : Split) → n ≡ code_bits h.shape → front ≡ take (n * soft.size) bytes → rest ≡ drop (n * soft.size) bytes → (w last : List ℕ) → w ≡ take ((n + 7) / 8) rest → last ≡ drop ((n + 7) / 8) rest → x ≡ (many n soft).value front → length b ≡ n → ((k : ℕ) → k < n → bit_at b k ≡ bit_of_bytes w k) → s ≡ (split h.version h.count).value last → file_of h (x, (b, s)) ≡ file_of h ((body h).value bytes)
parts_are h bytes n front rest x b s size front_is rest_is w last w_is last_is x_is long at s_is =
    let m = code_bits h.shape in
    let xs : x ≡ (many m soft).value (take (m * soft.size) bytes) = x_is ∙ ap₂ (λ k l. (many k soft).value l) size (front_is ∙ ap (λ k. take (k * soft.size) bytes) size) in
    let rests : rest ≡ drop (m * soft.size) bytes = rest_is ∙ ap (λ k. drop (k * soft.size) bytes) size in
    let bs : b ≡ (bit_list m).value (take ((m + 7) / 8) (drop (m * soft.size) bytes)) = listed (bit_of_bytes w) n b long at ∙ ap₂ (λ k l. map (bit_of_bytes l) (places k)) size (w_is ∙ ap₂ (λ k l. take ((k + 7) / 8) l) size rests) in
    let ss : s ≡ (split h.version h.count).value (drop ((m + 7) / 8) (drop (m * soft.size) bytes)) = s_is ∙ ap (split h.version h.count).value (last_is ∙ ap₂ (λ k l. drop ((k + 7) / 8) l) size rests) in
    ap (λ k. file_of h (k, (b, s))) xs ∙ ap (λ k. file_of h ((many m soft).value (take (m * soft.size) bytes), (k, s))) bs ∙ ap (λ k. file_of h ((many m soft).value (take (m * soft.size) bytes), ((bit_list m).value (take ((m + 7) / 8) (drop (m * soft.size) bytes)), k))) ss

-- a body of the right length, whose fields pass, is accepted
pub body_accepted : (h : FileHeader) (bytes : List ℕ) → length bytes ≡ (body h).size → (body h).test bytes ≡ true → body_at h bytes ≡ Ok (file_of h ((body h).value bytes))
body_accepted h bytes long passes =
    let enough : leb (body h).size (length bytes) ≡ true = le-leb _ _ (omega (arith, long)) in
    let no_more : leb (length bytes) (body h).size ≡ true = le-leb _ _ (omega (arith, long)) in
    ap (λ t. demand t faults.Cut (demand (leb (length bytes) (body h).size) faults.Extra (demand ((body h).test bytes) faults.Range (Ok (file_of h ((body h).value bytes)))))) enough ∙ ap (λ t. demand t faults.Extra (demand ((body h).test bytes) faults.Range (Ok (file_of h ((body h).value bytes))))) no_more ∙ ap (λ t. demand t faults.Range (Ok (file_of h ((body h).value bytes)))) passes
