-- `bdz_image::slot::take_low` meets its contract. Assumes nothing.
use Rattle.bdz_image.specs.Feed.{taken_low}
use Rattle.bdz_image.proofs.slot.take_low.Goals as goal

pub returns : goal.returns
unfolding taken_low
returns c = cc
