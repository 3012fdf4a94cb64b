-- `bdz_table::peel::fill_queue` meets its contract. Assumes nothing.
use Rattle.bdz_table.proofs.Counting.{filling_none, filling_skip, filling_push, filling_room}
use Rattle.bdz_table.proofs.peel.fill_queue.Goals as goal
use Rattle.bdz_table.proofs.peel.fill_queue.Goals.{then-d-eq1, else-d-eq1}

pub loop-v-init : goal.loop-v-init
loop-v-init c = filling_none _ _

pub bounds-q-n : goal.bounds-q-n
bounds-q-n c = filling_room _ _ _ _ _ c.loop-v.invariant c.loop-v-test.true c.requires.0

pub loop-v-preserved : goal.loop-v-preserved
loop-v-preserved c = elim c.if-d-eq1.branch [ then-d-eq1 w ↦ rw (w.q-is, w.n-is) (filling_push _ _ _ _ _ c.loop-v.invariant c.loop-v-test.true c.requires.0 w.if-d-eq1.true) | else-d-eq1 w ↦ rw (w.q-is, w.n-is) (filling_skip _ _ _ _ _ c.loop-v.invariant c.loop-v-test.true w.if-d-eq1.false) ]
