-- `bdz_image::open::open_packed` meets its contract. Assumes nothing.
use Rattle.std.proofs.Common.{◌∙◌}
use Rattle.bdz_image.proofs.Openings.{packed_by}
use Rattle.bdz_image.proofs.open.open_packed.Goals as goal

pub returns : goal.returns
returns c = c.open.ensures ∙ packed_by c.args.first.now c.args.len
