-- `bdz_base::size::vertex_count` meets its contract. Assumes nothing.
use Rattle.std.proofs.Common.{rules}
use Rattle.bdz_base.specs.Sizes.{assigned_size}
use Rattle.bdz_base.proofs.size.vertex_count.Goals as goal

pub returns : goal.returns
unfolding assigned_size
returns c = search rules
