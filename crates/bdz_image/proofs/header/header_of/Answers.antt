-- `bdz_image::header::header_of` meets its contract. Assumes nothing.
use Rattle.bdz_image.specs.Image.{header_of}
use Rattle.bdz_image.proofs.header.header_of.Goals as goal

pub returns : goal.returns
unfolding header_of
returns c = rw (c.width_for.ensures, c.modulus_in.ensures, c.magic_of.ensures)
