-- Every unit has bytes.
use Rattle.std.proofs.Common.{◌≡◌, ℕ, ◌+◌, ◌*◌, ◌<◌, ◌≤◌, Bool, List, [], ◌∷◌, length, refl, ap, ◌∙◌, arith, length-append}
use Rattle.std.proofs.lemmas.List.FromFn.{length-map-range_with_len}
use Rattle.s2_mode.specs.Mode.{Mode, symbols_in}
use Rattle.s2_mode.specs.declared.symbols.Symbol.{Symbol}
use Rattle.s2_mode.specs.Symbols.{symbol_bytes, bytes_of_symbols}
use Rattle.s2_map.specs.Mapping.{payload_of}
use Rattle.s2_plframe.specs.Frame.{frame_symbol, frame_symbols}
use Rattle.s2_bbframe.specs.declared.header.Header.{Header}
use Rattle.s2_link.specs.Link.{Link}
use Rattle.s2_send.specs.Frames.{IsUnitOf, frame_bytes, sent_behind}

symbols_least : (m : Mode) → 90 ≤ symbols_in m
unfolding symbols_in
symbols_least m = omega arith

length_bytes : (symbols : List Symbol) → length (bytes_of_symbols symbols) ≡ 4 * length symbols
length_bytes [] = refl
length_bytes (s ∷ symbols) = omega (arith, length-append (symbol_bytes s) (bytes_of_symbols symbols), length_bytes symbols)

some_frame : (m : Mode) (number : ℕ) (codeword : List Bool) → 0 < length (frame_bytes m number codeword)
some_frame m number codeword =
    let symbols = frame_symbols m number (payload_of m codeword) in
    let whole : length symbols ≡ symbols_in m = length-map-range_with_len (frame_symbol m number (payload_of m codeword)) 0 (symbols_in m) in
    omega (arith, length_bytes symbols, whole, symbols_least m)

pub some_unit : (link : Link) (due : Bool) (header : Header) (field unit : List ℕ) → IsUnitOf link due header field unit → 0 < length unit
some_unit link due header field unit is =
    let framed = is.is_frame in
    let front : length is.frame ≡ length (frame_bytes link.setup.mode link.setup.number framed.codeword) = ap length framed.spelt in
    let whole : length unit ≡ length is.frame + length (sent_behind link due) = ap length is.spelt ∙ length-append is.frame (sent_behind link due) in
    omega (arith, front, whole, some_frame link.setup.mode link.setup.number framed.codeword)
