-- `bdz_image::size::image_len` meets its contract. Assumes nothing.
use mathlib.Core.Path.{◌∙◌}
use Rattle.bdz_image.specs.Image.{image_len}
use Rattle.bdz_image.proofs.size.image_len.Goals as goal

pub returns : goal.returns
unfolding image_len
returns c = c.size.ensures ∙ rw (c.words_in.ensures, c.width_for-width.ensures)
