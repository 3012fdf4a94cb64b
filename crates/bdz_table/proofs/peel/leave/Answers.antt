-- `bdz_table::peel::leave` meets its contract. Assumes nothing.
use Rattle.bdz_table.proofs.Leaving.{leaving_none, leaving_inside, leaving_insidex, leaving_some, leaving_skip, leaving-push, leaving_room}
use Rattle.bdz_table.proofs.peel.leave.Goals as goal
use Rattle.bdz_table.proofs.peel.leave.Goals.{then-d-eq1, else-d-eq1}

pub loop-w-init : goal.loop-w-init
loop-w-init c = leaving_none _ _ _ _ _ _

pub bounds-deg-u : goal.bounds-deg-u
bounds-deg-u c = leaving_inside _ _ _ _ _ _ c.requires _ _ _ _ _ c.loop-w.invariant c.loop-w-test.true

pub overflow_sub-d : goal.overflow_sub-d
overflow_sub-d c = leaving_some _ _ _ _ _ _ c.requires _ _ _ _ _ c.loop-w.invariant c.loop-w-test.true

pub bounds-deg-u-in-loop-w : goal.bounds-deg-u-in-loop-w
bounds-deg-u-in-loop-w c = leaving_inside _ _ _ _ _ _ c.requires _ _ _ _ _ c.loop-w.invariant c.loop-w-test.true

pub bounds-xor_e-u : goal.bounds-xor_e-u
bounds-xor_e-u c = leaving_insidex _ _ _ _ _ _ c.requires _ _ _ _ _ c.loop-w.invariant c.loop-w-test.true

pub bounds-xor_e-u-in-loop-w : goal.bounds-xor_e-u-in-loop-w
bounds-xor_e-u-in-loop-w c = leaving_insidex _ _ _ _ _ _ c.requires _ _ _ _ _ c.loop-w.invariant c.loop-w-test.true

pub bounds-q-n : goal.bounds-q-n
bounds-q-n c = leaving_room _ _ _ _ _ _ c.requires _ _ _ _ _ c.loop-w.invariant c.loop-w-test.true c.if-d-eq1.true

pub loop-w-preserved : goal.loop-w-preserved
loop-w-preserved c = elim c.if-d-eq1.branch [ then-d-eq1 w ↦ rw (w.q-is, w.n-is) (leaving-push _ _ _ _ _ _ c.requires _ _ _ _ _ c.loop-w.invariant c.loop-w-test.true w.if-d-eq1.true) | else-d-eq1 w ↦ rw (w.q-is, w.n-is) (leaving_skip _ _ _ _ _ _ c.requires _ _ _ _ _ c.loop-w.invariant c.loop-w-test.true w.if-d-eq1.false) ]
