-- `bdz_table::assign::sum_marked` meets its contract. Assumes nothing.
use Rattle.bdz_table.proofs.Words.{summing_none, summing_insidem, summing_add, summing_pass}
use Rattle.bdz_table.proofs.assign.sum_marked.Goals as goal
use Rattle.bdz_table.proofs.assign.sum_marked.Goals.{then-marks-u-ne0, else-marks-u-ne0}

pub loop-w-init : goal.loop-w-init
loop-w-init c = summing_none _ _ _

pub bounds-marks-u : goal.bounds-marks-u
bounds-marks-u c = summing_insidem _ _ _ _ c.requires.marked c.requires.reach _ _ c.loop-w.invariant c.loop-w-test.true

pub loop-w-preserved : goal.loop-w-preserved
loop-w-preserved c = elim c.if-marks-u-ne0.branch [ then-marks-u-ne0 w ↦ rw w.s-is (summing_add _ _ _ _ c.requires.marked c.requires.reach _ _ c.loop-w.invariant c.loop-w-test.true) | else-marks-u-ne0 w ↦ rw w.s-is (summing_pass _ _ _ _ c.requires.marked c.requires.reach _ _ c.loop-w.invariant c.loop-w-test.true w.if-marks-u-ne0.false) ]
