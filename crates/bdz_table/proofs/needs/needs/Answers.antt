-- `bdz_table::needs::needs` meets its contract. Assumes nothing.
-- `bdz_table::needs::needs` meets its contract. Assumes nothing.
use Rattle.std.proofs.Common.{arith}
use Rattle.bdz_table.proofs.NeedLaws.{vertices_wide}
use Rattle.bdz_table.specs.Build.{needs_of}
use Rattle.bdz_table.proofs.needs.needs.Goals as goal

pub occupancy_need-requires : goal.occupancy_need-requires
occupancy_need-requires c = omega (arith, c.vertices_for-m.ensures, vertices_wide c.args.kind c.args.n (omega arith))

pub returns : goal.returns
unfolding needs_of
returns c = cc
