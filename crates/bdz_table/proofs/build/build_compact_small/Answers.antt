-- `bdz_table::build::build_compact_small` meets its contract. Assumes nothing.
use Rattle.bdz_table.proofs.Owning.{compact_owns}
use Rattle.bdz_table.proofs.build.build_compact_small.Goals as goal

pub returns : goal.returns
returns c = compact_owns c.build_compact.ensures
