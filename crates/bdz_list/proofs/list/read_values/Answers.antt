-- `bdz_list::list::read_values` meets its contract. The loop's invariant: i words stand in values. Assumes nothing.
use Rattle.bdz_base.proofs.Buffers.{filled_none, filled_more}
use Rattle.bdz_list.proofs.list.read_values.Goals as goal

pub loop-i-init : goal.loop-i-init
loop-i-init c = filled_none _ _ _

pub loop-i-preserved : goal.loop-i-preserved
loop-i-preserved c = filled_more c.loop-i.invariant c.loop-i-test.true c.requires.1 c.value_at.ensures
