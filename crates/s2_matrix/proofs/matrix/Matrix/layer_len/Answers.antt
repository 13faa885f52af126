use Rattle.std.proofs.Common.{length, ap, sym, ◌∙◌}
use Rattle.std.proofs.lemmas.List.{length-map}
use Rattle.s2_matrix.specs.Layers.{layer_places, entry_of}
use Rattle.s2_matrix.proofs.matrix.Matrix.layer_len.Goals as goal

pub returns : goal.returns
returns c =
    let r = c.args.self.now in
    ap length c.places_of.ensures.are ∙ sym (length-map (layer_places r c.args.layer) (entry_of r))
