-- `bdz_image::open::open_compact` meets its contract. Assumes nothing.
use Rattle.std.proofs.Common.{◌∙◌}
use Rattle.bdz_image.proofs.Openings.{compact_by}
use Rattle.bdz_image.proofs.open.open_compact.Goals as goal

pub returns : goal.returns
returns c = c.open.ensures ∙ compact_by c.args.first.now c.args.len
