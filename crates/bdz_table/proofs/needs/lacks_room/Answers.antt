-- `bdz_table::needs::lacks_room` meets its contract. Assumes nothing.
use Rattle.bdz_table.specs.Build.{lacks_room}
use Rattle.bdz_table.proofs.needs.lacks_room.Goals as goal

pub returns : goal.returns
unfolding lacks_room
returns c = cc
