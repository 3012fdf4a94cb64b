-- `bdz_image::parts::occ_off` meets its contract. Assumes nothing.
use mathlib.Core.Path.{◌∙◌}
use native.Mathlib.Omega.{arith}
use Rattle.bdz_image.specs.Parts.{occ_off}
use Rattle.bdz_image.proofs.parts.occ_off.Goals as goal

pub returns : goal.returns
unfolding occ_off
returns c = c.size.ensures ∙ rw c.words_in.ensures (omega arith)
