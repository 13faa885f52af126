use Rattle.s2_rows.proofs.ValueTextLemmas.{value_text_lem}
use Rattle.s2_rows.proofs.laws.value_texts.Goals as goal

pub returns : goal.returns
returns c = value_text_lem
