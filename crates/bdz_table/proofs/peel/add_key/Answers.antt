-- `bdz_table::peel::add_key` meets its contract. Assumes nothing.
use Rattle.bdz_table.proofs.AddKey.{partly_none, partly_full, partly_more, at_inside, at_insidex}
use Rattle.bdz_table.proofs.peel.add_key.Goals as goal

pub loop-w-init : goal.loop-w-init
loop-w-init c = partly_none _ _ _ _

pub bounds-deg-u : goal.bounds-deg-u
bounds-deg-u c = at_inside _ _ _ _ _ _ _ c.requires c.loop-w.invariant c.loop-w-test.true

pub returns-then-d : goal.returns-then-d
returns-then-d c = partly_full _ _ _ _ _ _ _ c.requires c.loop-w.invariant c.loop-w-test.true c.if-d.true

pub bounds-deg-u-in-loop-w : goal.bounds-deg-u-in-loop-w
bounds-deg-u-in-loop-w c = at_inside _ _ _ _ _ _ _ c.requires c.loop-w.invariant c.loop-w-test.true

pub bounds-xor_e-u : goal.bounds-xor_e-u
bounds-xor_e-u c = at_insidex _ _ _ _ _ _ _ c.requires c.loop-w.invariant c.loop-w-test.true

pub bounds-xor_e-u-in-loop-w : goal.bounds-xor_e-u-in-loop-w
bounds-xor_e-u-in-loop-w c = at_insidex _ _ _ _ _ _ _ c.requires c.loop-w.invariant c.loop-w-test.true

pub loop-w-preserved : goal.loop-w-preserved
loop-w-preserved c = partly_more _ _ _ _ _ _ _ c.requires c.loop-w.invariant c.loop-w-test.true
