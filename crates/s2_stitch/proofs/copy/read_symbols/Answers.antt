use Rattle.std.proofs.Common.{◌≡◌, ◌*◌, ◌≤◌, ◌∙◌, length, take, ap, arith, rules, subst, sym}
use Rattle.std.proofs.lemmas.List.{take_all}
use Rattle.std.specs.Io.KnownBytes.{Consumes}
use Rattle.s2_check.proofs.Lists.{refilled}
use Rattle.s2_stitch.proofs.copy.read_symbols.Goals as goal

pub returns-clause-reads : goal.returns-clause-reads
returns-clause-reads g c =
    let old = g.C.CountedRead.remaining c.args.copy.now in
    let new = g.C.CountedRead.remaining c.read_full.new.reader in
    let buf = c.read_full.new.buf in
    let bytes = c.in_ok-bytes.bytes in
    let symbols = c.in_ok-symbols.symbols in
    let bytes_len : bytes.len ≡ length bytes.items = bytes.ok.0 in
    let bytes_long : length bytes.items ≡ 4 * c.args.size = search rules in
    let buf_long : length buf ≡ length bytes.items = search rules in
    let is = c.deref.ensures.value ∙ refilled bytes.len buf bytes.items bytes_len buf_long in
    let symbols_len : symbols.len ≡ length symbols.items = symbols.ok.0 in
    let symbols_long : length c.symbols_into.new.symbols ≡ length symbols.items = search rules in
    let read : Consumes old new (take c.in_ok-count.count buf) = search rules in
    let all : length buf ≤ c.in_ok-count.count = omega (arith, buf_long, bytes_long, c.if-count-size.false) in
    (c.deref.result.now, ap length is ∙ buf_long ∙ bytes_long, refilled symbols.len c.symbols_into.new.symbols symbols.items symbols_len symbols_long ∙ c.symbols_into.ensures, subst (Consumes old new) (take_all c.in_ok-count.count buf all ∙ sym is) read)

pub returns-clause-long : goal.returns-clause-long
returns-clause-long g c =
    let symbols = c.in_ok-symbols.symbols in
    let symbols_len : symbols.len ≡ length symbols.items = symbols.ok.0 in
    let symbols_long : length c.symbols_into.new.symbols ≡ length symbols.items = search rules in
    let size : length symbols.items ≡ c.args.size = search rules in
    ap length (refilled symbols.len c.symbols_into.new.symbols symbols.items symbols_len symbols_long) ∙ symbols_long ∙ size
