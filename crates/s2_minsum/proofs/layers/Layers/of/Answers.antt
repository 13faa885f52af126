use Rattle.std.proofs.Common.{length, [], ◌∷◌, length-append, ap, ◌∙◌, arith}
use Rattle.s2_minsum.specs.Layout.{first_row}
use Rattle.s2_minsum.proofs.Made.{layer_starts_more, entries_length, entries_more}
use Rattle.s2_minsum.proofs.layers.Layers.of.Goals as goal

pub loop-r-preserved : goal.loop-r-preserved
loop-r-preserved c =
    let rows = c.args.matrix.now in
    let r = c.loop-r.r in
    let inv = c.loop-r.invariant in
    let made = c.in_ok-add_entries.ensures in
    record {
      entries_long = entries_length rows r c.loop-r.entries.items c.add_entries.new.entries.items inv.entries_long made;
      entries_are = entries_more rows r c.loop-r.entries.items c.add_entries.new.entries.items inv.entries_long inv.entries_are made;
      layer_starts_long = ap length c.in_ok-push.ensures.items ∙ omega (arith, length-append c.loop-r.layer_starts.items (c.len.result ∷ []), inv.layer_starts_long);
      layer_starts_are = layer_starts_more (first_row rows) r c.len.result c.loop-r.layer_starts.items c.push.new.self.items inv.layer_starts_long inv.layer_starts_are (omega (arith, c.len.ensures, inv.entries_long)) c.in_ok-push.ensures.items;
    }
