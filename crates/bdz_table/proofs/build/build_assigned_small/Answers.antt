-- `bdz_table::build::build_assigned_small` meets its contract. Assumes nothing.
use Rattle.bdz_table.proofs.Owning.{assigned_owns}
use Rattle.bdz_table.proofs.build.build_assigned_small.Goals as goal

pub returns : goal.returns
returns c = assigned_owns c.build_assigned.ensures
