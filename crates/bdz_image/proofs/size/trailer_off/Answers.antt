-- `bdz_image::size::trailer_off` meets its contract. Assumes nothing.
use mathlib.Core.Path.{◌∙◌}
use Rattle.bdz_image.specs.Image.{trailer_off}
use Rattle.bdz_image.proofs.size.trailer_off.Goals as goal

pub returns : goal.returns
unfolding trailer_off
returns c = c.size.ensures ∙ rw c.words_in.ensures
