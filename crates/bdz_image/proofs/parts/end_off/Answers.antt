-- `bdz_image::parts::end_off` meets its contract. Assumes nothing.
use mathlib.Core.Path.{◌∙◌}
use Rattle.bdz_image.specs.Parts.{end_off}
use Rattle.bdz_image.proofs.parts.end_off.Goals as goal

pub returns : goal.returns
unfolding end_off
returns c = c.size.ensures ∙ rw c.words_in.ensures
