-- `bdz_image::parts::body_off` meets its contract. Assumes nothing.
use mathlib.Core.Path.{refl}
use Rattle.bdz_image.specs.Parts.{body_off}
use Rattle.bdz_image.proofs.parts.body_off.Goals as goal

pub returns : goal.returns
unfolding body_off
returns c = refl
